-- `new` makes a mark that says whatever the caller chose. Assumes `Logic`.
use Rattle.std.proofs.Common.{◌≡◌, [], ◌∷◌, refl, lit<, w8}
use mir.Syntax.{Fn}
use mir.Val.{Val, vint}
use base.Logic.{SProp, emp}
use base.Fml.{ftrue}
use contract.Monad.{fact, fact_i}
use contract.Running.{tables}
use types.Kit.{‵, raw, ◌⊛◌, ◌$◌, ◌∵◌, !, qed, by, move, drop, use0, use1, split, fjoin, fpack}
use types.Part.{agg}
use types.Run.{lit, no_more, and_then, returns, enter}
use types.ByLocal.{alloc_all, pass_all, free_all, look_at, sets}
use denote.Laws.{Typed}
use denote.RattleType.{owns}
use denote.Shadow.{makes_shadow}
use denote.Signature.{types_at}
use denote.Steps.{nothing}
use denote.Triple.Entry.{alive}
use denote.Triple.Walked.{walk_of}
use Rattle.std.proofs.cell.Inside.{wraps}
use Rattle.std.proofs.raw_atomic.Walks.{proved_at, leaves}
use Rattle.hol_mark.proofs.Steps.{byte_field, Fields, byte}
use Rattle.hol_mark.specs.contracts.Mark.new.{ended, clauses}
use Rattle.hol_mark.specs.contracts.Mark.new.Key.{name as #self}
use Rattle.hol_mark.proofs.Mark.new.Statement.{statement}
use Rattle.hol_mark.proofs.Mark.new.Code as compiled

pub new_spec : {M : Type 1} → statement M
new_spec 𝓤 𝓛 𝓜 𝓡 wired =
    let H = 𝓛.H in
    let c = clauses 𝓛 𝓜.mem 𝓡.returns in
    let fn : Fn = compiled.function in
    let C = (tables 𝓤 H 𝓜 𝓡 𝓡.env).C in
    let Λ = (tables 𝓤 H 𝓜 𝓡 𝓡.env).Λ in
    proved_at 𝓛 ended tt c 𝓜 𝓡 tt #self fn (compiled.unfolded 𝓤 H 𝓜 𝓡 wired) (λ z are.
    let Post : Val → SProp 𝓤 = (walk_of 𝓛 ended tt c).post z in
    let i : Fields.Denot = record { byte = 0 } in
    let zeroed : Typed Fields.mir (byte 0 ∷ []) = ((tt, (record { fits = lit< tt }, tt)), tt) in
    qed 𝓛 ((raw (alive 𝓛 ended.signature z.0.0 z.0.1) ⊛ ‵ (owns (types_at ended.signature.params z.0.0) z.0.3 z.0.4)) ∷ ‵ ftrue ∷ []) ∵ move ! (1 ∷ []) $ drop ! $ split ! $ move ! (1 ∷ []) $ drop ! $
    enter ! C Λ fn [] Post $ alloc_all ! (λ l. pass_all ! refl tt $
    sets ! (agg ! (and_then ! (lit ! tt) (no_more !))) refl (tt, (record { fits = lit< tt }, tt)) $
    returns ! (look_at ! 0 refl) $ free_all ! refl $
    use0 𝓛 (‵ (byte_field.row.own_val 0 (vint w8 0 ∷ []))) (makes_shadow 𝓛 (byte_field.row.own_val 0 (vint w8 0 ∷ [])) (tt, tt) (refl, lit< tt)) $
    use1 𝓛 (‵ (Fields.own_val i (byte 0 ∷ []))) (wraps byte_field 𝓛 [] [] 0 (vint w8 0)) $ fpack ! Fields.Denot (λ j. Fields.own_val j (byte 0 ∷ [])) i $
    nothing ! $ fpack ! (Typed Fields.mir (byte 0 ∷ [])) (λ _. ftrue) zeroed $ fjoin ! $
    use0 𝓛 (raw (fact 𝓤 (z.1 ≡ z.1))) (fact_i 𝓤 (z.1 ≡ z.1) (emp 𝓤) refl) $ nothing ! $ move ! (3 ∷ 0 ∷ 2 ∷ 1 ∷ []) $
    by ! (leaves 𝓛 ended tt c z (byte 0) z.1 tt tt)))
