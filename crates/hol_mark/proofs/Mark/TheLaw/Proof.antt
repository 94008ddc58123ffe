-- A `&Mark` is made of a borrow of the whole, under a new name. Assumes `Logic`.
use Rattle.std.proofs.Common.{ℕ, [], ◌∷◌}
use base.Fraction.{full_share}
use base.Stored.{Gv}
use base.Logic.{snd∗}
use base.Fml.{GName, fbor, fres}
use base.Before.{before}
use types.Logic.{sem, lfts}
use types.Kit.{‵, raw, later, ◌$◌, ◌∵◌, !, qed, move, drop, fjoin, fpack, use1, await, updating, now, done}
use types.Tokens.{name_new, name_done}
use types.Na.{na_bor, bor_na}
use denote.RattleType.{RattleType}
use denote.Memory.{part_at, part_of}
use denote.Sharing.{ShrLaws, said}
use denote.SharingLaws.{some_shr_laws, beside_shr_laws}
use denote.Hidden.{guarded, guarded_shr_laws}
use Rattle.hol_mark.specs.Mark.{fields_at, named, mark_at}
use Rattle.hol_mark.specs.contracts.Mark as C
use Rattle.hol_mark.specs.contracts.Mark.TheInside as inside
use Rattle.hol_mark.proofs.Mark.TheLaw.Statement.{statement}

res_laws : (γ : GName) (d : Gv) → ShrLaws (said (fres γ d))
res_laws γ d = record { contraction = λ M 𝓤 𝓛 κ. 𝓛.names.res_dup γ d; mono = λ M 𝓤 𝓛 κ' κ. snd∗ 𝓤 (sem 𝓛 (before κ' κ)) (sem 𝓛 (fres γ d)) }

mark_laws : (F : RattleType) (d : Gv) (b o : ℕ) → ShrLaws (mark_at F d b o)
mark_laws F d b o = some_shr_laws GName (named F d b o) (λ γ. beside_shr_laws (guarded (γ, 0) (fields_at F b o)) (said (fres γ d)) (guarded_shr_laws (γ, 0) (fields_at F b o)) (res_laws γ d))

pub shares : statement
unfolding part_of
shares = record {
  shr_laws = λ d b o. mark_laws inside.the_row d b o;
  shares = λ M 𝓤 𝓛 d κ ts b o inc sp.
      let P = part_at C.the_written full_share d b o in
      qed 𝓛 (‵ (fbor κ P) ∷ raw (lfts 𝓛 ts) ∷ []) ∵ updating ! $ name_new ! tt d (λ γ. name_done ! tt $ move ! (1 ∷ []) $ drop ! $ move ! (1 ∷ []) $
      use1 𝓛 (later (‵ (na_bor κ (γ, 0) P))) (bor_na 𝓛 κ (γ, 0) P) $ await ! tt $ fjoin ! $ fpack ! GName (λ η. named inside.the_row d b o η κ) γ $ now ! $ done !);
}
