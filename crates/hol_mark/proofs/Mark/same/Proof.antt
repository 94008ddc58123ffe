-- `same` finds both bytes at once where the marks have two names, and else one after the other, and then the name says that they say the same. Assumes `Logic`.
use Rattle.std.proofs.Common.{◌≡◌, Bool, true, false, List, [], ◌∷◌, ◌++◌, refl, sym, eqb, not, lit<}
use mathlib.Core.Logic.{dite}
use native.Mathlib.Decide.{ℕ_discrete}
use mir.Syntax.{Fn}
use mir.Val.{Val, vptr, vbool}
use base.Logic.{SProp, ent, emp, via}
use base.Fml.{Lft, GName, Key, Mask, Share, Fml, ftrue, flft, fres, ftok}
use base.Mask.{every, less, less_other}
use prog.Wp.{Env, WpFn}
use contract.Monad.{fact, fact_i, sep→conj}
use types.Kit.{Item, ⋆, ‵, raw, given, ◌⊛◌, prop, at_ret, ◌$◌, ◌∵◌, !, qed, by, move, keep, drop, use0, use1, use2, split, split3, join, rewrite, regoal, learn, fsplit, fjoin, fpick, feq_i}
use types.Na.{na_bor, na_dup}
use types.Part.{whole, sub, look_in, store_in}
use types.Run.{stop, fld, load, addr, lit, bin, of_opd, assigns, first, blocks, exec, returns, enter}
use types.ByLocal.{alloc_all, pass_all, free_all, look_at, get, through, sets, sets_last, env}
use denote.RattleType.{owns}
use denote.Signature.{types_at}
use denote.Steps.{nothing}
use denote.Opens.{unhide}
use denote.Triple.Walked.{Stays, stay_dropped, walk_of, Goes-dropped}
use base.Stored.{Gv}
use Rattle.std.proofs.alloc.Shapes.{after}
use Rattle.std.proofs.raw_atomic.Walks.{leaves}
use Rattle.hol_mark.specs.Mark.{fields_at}
use Rattle.hol_mark.proofs.Walks.{slot_at, with_token, proved_with_token}
use Rattle.hol_mark.proofs.Steps.{Fields, IsByte, opens_in, shuts_in}
use Rattle.hol_mark.specs.contracts.Mark.same.{ended, clauses}
use Rattle.hol_mark.specs.contracts.Mark.same.Key.{name as #self}
use Rattle.hol_mark.proofs.Mark.same.Statement.{statement}
use Rattle.hol_mark.proofs.Mark.same.Code as compiled
use Rattle.hol_mark.proofs.Mark.same.Code.{code}

is_0 : IsByte 0
is_0 = (tt, record { fits = lit< tt })

is_1 : IsByte 1
is_1 = (tt, record { fits = lit< tt })

abbrev stays : Stays ended.signature.params ended.kept
stays = (stay_dropped (slot_at 0 ended.signature.params) ended.kept.0, (stay_dropped (slot_at 1 ended.signature.params) ended.kept.1.0, tt))

pub same_spec : {M : Type 1} → statement M
unfolding code
same_spec 𝓤 𝓛 𝓜 𝓡 wired =
    let H = 𝓛.H in
    let c₀ = clauses 𝓛 𝓜.mem 𝓡.returns in
    let fn : Fn = compiled.function in
    let c = with_token 𝓛 ended stays c₀ in
    proved_with_token 𝓛 ended stays c₀ 𝓜 𝓡 (Goes-dropped 𝓛 2 (slot_at 0 ended.signature.params) ended.kept.0 (λ κs x f. refl), (Goes-dropped 𝓛 2 (slot_at 1 ended.signature.params) ended.kept.1.0 (λ κs x f. refl), tt))
    #self fn (wired.0.0 #self refl) (λ C Λ z are.
    let Post : Val → SProp 𝓤 = (walk_of 𝓛 ended stays c).post z in
    let a = z.0.3 in
    let vss = z.0.4 in
    let κ : Lft = z.0.0.0 in
    let q : Share = z.0.1.0 in
    let μ : Lft = z.0.0.1.0 in
    let r : Share = z.0.1.1.0 in
    let b = a.0.ref_ptr.0 in
    let o = a.0.ref_ptr.1 in
    let d = a.1.0.ref_ptr.0 in
    let e = a.1.0.ref_ptr.1 in
    let x : Gv = a.0.now in
    let y : Gv = a.1.0.now in
    let N : GName → Fml = λ γ. na_bor κ (γ, 0) (fields_at Fields b o) in
    let O : GName → Fml = λ η. na_bor μ (η, 0) (fields_at Fields d e) in
    let Has : GName → GName → List (Item 𝓤) = λ γ η. ‵ (N γ) ∷ ‵ (flft κ q) ∷ ‵ (ftok every) ∷ ‵ (O η) ∷ ‵ (flft μ r) ∷ [] in
    let leave : (t : Bool) → (t ≡ true → x ≡ y) → ent 𝓤 (⋆ 𝓛 (‵ (flft κ q) ∷ ‵ (flft μ r) ∷ ‵ (ftok every) ∷ [])) (Post (vbool t)) = λ t says.
    qed 𝓛 (‵ (flft κ q) ∷ ‵ (flft μ r) ∷ ‵ (ftok every) ∷ []) ∵ use0 𝓛 (raw (fact 𝓤 (t ≡ true → x ≡ y))) (fact_i 𝓤 (t ≡ true → x ≡ y) (emp 𝓤) says) $ move ! (3 ∷ 0 ∷ []) $ join ! $
    feq_i ! (List Val) (vbool t ∷ []) (vbool t ∷ []) refl $ nothing ! $ nothing ! $ fjoin ! $ nothing ! $ fjoin ! $
    nothing ! $ move ! (5 ∷ 0 ∷ []) $ join ! $ move ! (4 ∷ 0 ∷ []) $ join ! $ by ! (leaves 𝓛 ended stays c z (vbool t) t (tt, (tt, tt)) (tt, (tt, tt))) in
    -- one after the other
    let in_turn : (γ η : GName) → x ≡ y → ent 𝓤 (⋆ 𝓛 (Has γ η)) (WpFn 𝓤 H C Λ fn (vptr b o ∷ vptr d e ∷ []) Post) = λ γ η says.
    qed 𝓛 (Has γ η) ∵ use1 𝓛 (‵ (N γ) ⊛ ‵ (N γ)) (na_dup 𝓛 κ (γ, 0) (fields_at Fields b o)) $ split ! $ move ! (0 ∷ 2 ∷ 3 ∷ []) $
    enter ! C Λ fn (vptr b o ∷ vptr d e ∷ []) Post $ alloc_all ! (λ l. pass_all ! refl ((tt, tt), ((tt, tt), tt)) $ let En : Env 𝓤 H = env fn.locals l in
    sets ! (addr ! (through ! refl (fld ! refl (stop !)))) refl (tt, tt) $ sets ! (addr ! (through ! refl (fld ! refl (stop !)))) refl (tt, tt) $ first ! $ blocks ! $
    opens_in 𝓛 κ q every γ b o ! tt refl (λ n is-n. assigns ! (of_opd ! (lit ! tt)) (through ! refl (stop !)) (store_in ! 0 (sub ! 0 refl (whole !)) is_0) $ shuts_in 𝓛 κ q every γ b o ! tt 0 is_0 $
    move ! (3 ∷ 4 ∷ 1 ∷ []) $ opens_in 𝓛 μ r every η d e ! tt refl (λ m is-m. assigns ! (of_opd ! (lit ! tt)) (through ! refl (stop !)) (store_in ! 0 (sub ! 0 refl (whole !)) is_1) $ shuts_in 𝓛 μ r every η d e ! tt 1 is_1 $
    move ! (3 ∷ 2 ∷ 1 ∷ []) $ opens_in 𝓛 κ q every γ b o ! tt refl (λ k is-k. sets ! (of_opd ! (load ! (through ! refl (stop !)) (look_in ! 0 (sub ! 0 refl (whole !))))) refl is-k $
    sets_last ! (bin ! (get ! refl) (lit ! tt) tt) refl (tt, tt) $ exec ! C Λ En (after 3 fn.body) (at_ret En Post) $ sets ! (of_opd ! (get ! refl)) refl (tt, tt) $
    shuts_in 𝓛 κ q every γ b o ! tt k is-k $ returns ! (look_at ! 0 refl) $ free_all ! refl $ keep ! (0 ∷ 2 ∷ 1 ∷ []) $ by ! (leave (not (eqb k 0)) (λ _. says)))))) in
    -- both at once
    let at_once : (γ η : GName) → ¬ (γ ≡ η) → ent 𝓤 (⋆ 𝓛 (Has γ η)) (WpFn 𝓤 H C Λ fn (vptr b o ∷ vptr d e ∷ []) Post) = λ γ η apart. let E : Mask = less every (γ, 0) in
    qed 𝓛 (Has γ η) ∵
    enter ! C Λ fn (vptr b o ∷ vptr d e ∷ []) Post $ alloc_all ! (λ l. pass_all ! refl ((tt, tt), ((tt, tt), tt)) $ let En : Env 𝓤 H = env fn.locals l in
    opens_in 𝓛 κ q every γ b o ! tt refl (λ n is-n. move ! (3 ∷ 4 ∷ 1 ∷ []) $ opens_in 𝓛 μ r E η d e ! tt (less_other every (γ, 0) (η, 0) (λ (p : ◌≡◌ {A = Key} (γ, 0) (η, 0)). apart (λ i. (p i).0))) (λ m is-m.
    -- [the second byte, the token, what shuts it; the first, what shuts it]
    sets ! (addr ! (through ! refl (fld ! refl (stop !)))) refl (tt, tt) $ sets ! (addr ! (through ! refl (fld ! refl (stop !)))) refl (tt, tt) $ first ! $ blocks ! $
    assigns ! (of_opd ! (lit ! tt)) (through ! refl (stop !)) (store_in ! 3 (sub ! 0 refl (whole !)) is_0) $ assigns ! (of_opd ! (lit ! tt)) (through ! refl (stop !)) (store_in ! 0 (sub ! 0 refl (whole !)) is_1) $
    sets ! (of_opd ! (load ! (through ! refl (stop !)) (look_in ! 3 (sub ! 0 refl (whole !))))) refl is_0 $
    sets_last ! (bin ! (get ! refl) (lit ! tt) tt) refl (tt, tt) $ exec ! C Λ En (after 3 fn.body) (at_ret En Post) $ sets ! (of_opd ! (get ! refl)) refl (tt, tt) $
    shuts_in 𝓛 μ r E η d e ! tt 1 is_1 $ move ! (2 ∷ 1 ∷ 3 ∷ []) $ shuts_in 𝓛 κ q every γ b o ! tt 0 is_0 $
    returns ! (look_at ! 0 refl) $ free_all ! refl $ keep ! (0 ∷ 2 ∷ 1 ∷ []) $ by ! (leave false (λ f. cc))))) in
    qed 𝓛 (((‵ (flft κ q) ⊛ ‵ (flft μ r) ⊛ ‵ ftrue) ⊛ ‵ (owns (types_at ended.signature.params z.0.0) a vss)) ∷ (‵ (ftok every) ⊛ raw ((c₀ z.0.0 a).requires z.1)) ∷ []) ∵
    split ! $ split3 ! $ move ! (3 ∷ []) $ fsplit ! $ fsplit ! $ move ! (2 ∷ []) $ fsplit ! $ fsplit ! $ move ! (8 ∷ []) $ split ! $ keep ! (6 ∷ 7 ∷ 0 ∷ 3 ∷ 8 ∷ []) $
    regoal ! (λ (us : List Val). prop (WpFn 𝓤 H C Λ fn us Post)) (λ i. are.0.0 i ++ (are.1.0.0 i ++ [])) refl $
    unhide ! $ fpick ! (λ γ. fsplit ! $ move ! (4 ∷ []) $ unhide ! $ fpick ! (λ η. fsplit ! $
    -- [the second's borrow, its name; the first's borrow, its name; κ's token; the thread's token; μ's token]
    dite (ℕ_discrete γ η)
    (λ same. move ! (3 ∷ 1 ∷ []) $ rewrite ! 1 (λ (k : GName). ‵ (fres k y)) (sym same) refl $
    use2 𝓛 (given (x ≡ y) (raw (emp 𝓤))) (via 𝓤 _ (sep→conj 𝓤 (𝓛.A.res γ x) (𝓛.A.res γ y)) (𝓛.names.res_one γ x y)) $ learn ! (λ says. drop ! $
    move ! (1 ∷ 2 ∷ 3 ∷ 0 ∷ 4 ∷ []) $ by ! (in_turn γ η says)))
    (λ apart. keep ! (2 ∷ 4 ∷ 5 ∷ 0 ∷ 6 ∷ []) $ by ! (at_once γ η apart)))))
