-- SYM and AP_TERM by the primitive rules.
use Rattle.std.specs.Prelude.{◌≡◌, Bool, true, false, cond, Option, Some, None, IsSome, is_some, codes, refl}
use Rattle.std.specs.FinSet as set
use Rattle.std.proofs.Common.{ap, sym, ◌∙◌, subst}
use Rattle.hol_types.specs.Tree.{TypeTree}
use Rattle.hol_types.specs.Equal.{type_eq}
use Rattle.hol_types.specs.Fun.{fun_type, fun_parts}
use Rattle.hol_types.proofs.OrderLaws.{type_cmp_decides}
use Rattle.hol_terms.specs.Nameless.{Nameless, fixed, app}
use Rattle.hol_formulas.specs.Equation.{bool_type, equality_type, equation, Sides, dest_eq}
use Rattle.hol_formulas.proofs.FormulaLaws.{dest_eq_equation}
use Rattle.hol_kernel.specs.Items.{Items}
use Rattle.hol_kernel.specs.Sequent.{Hyps, no_hyps, Sequent, sequent_of}
use Rattle.hol_kernel.specs.Typing.{HasType}
use Rattle.hol_kernel.specs.Rules.{reflexive, comb_parts, comb_sides, mk_comb_of}
use Rattle.hol_kernel.specs.Derivation.{Derives, by_refl, by_mk_comb, by_eq_mp}
use Rattle.hol_kernel.proofs.HypothesisLists.{hyps_total, hyps_same}
use Rattle.hol_kernel.proofs.SortedSets.{union_none_left, union_none_right}
use Rattle.hol_kernel.proofs.Sound.{Derived, mk_comb_sound}
use Rattle.hol_kernel.proofs.TypedParts.{sign_typed}
use Rattle.hol_kernel.proofs.WellTyped.{sides_typed}

-- ---- SYM
pub sym_derived : (items : Items) (hs : Hyps) (s : TypeTree) (l r : Nameless) → HasType items (equation s l r) bool_type → Derives items hs (equation s l r) → Derives items hs (equation s r l)
sym_derived items hs s l r typed d =
    let sign = fixed (codes "=") (equality_type s) in
    let own : Derives items no_hyps (equation s l l) = by_refl l s (sides_typed items s bool_type l r typed).0 in
    let under : Derives items (set.union no_hyps hs) (equation (fun_type s bool_type) (app sign l) (app sign r)) =
    by_mk_comb no_hyps hs s (fun_type s bool_type) sign sign l r (by_refl sign (equality_type s) (sign_typed items s bool_type l r typed)) d in
    let both : Derives items (set.union (set.union no_hyps hs) no_hyps) (equation bool_type (equation s l l) (equation s r l)) =
    by_mk_comb (set.union no_hyps hs) no_hyps s bool_type (app sign l) (app sign r) l l under own in
    let whole : set.union (set.union (set.union no_hyps hs) no_hyps) no_hyps ≡ hs =
    union_none_right hyps_total hyps_same (set.union (set.union no_hyps hs) no_hyps) ∙ union_none_right hyps_total hyps_same (set.union no_hyps hs) ∙ union_none_left hyps_total hyps_same hs in
    subst (λ (ks : Hyps). Derives items ks (equation s r l)) whole
    (by_eq_mp (set.union (set.union no_hyps hs) no_hyps) no_hyps bool_type (equation s l l) (equation s r l) (equation s l l) both own refl)

-- ---- AP_TERM

-- What it says that the function fits the sides.
pub record FitsSides (f : Nameless) (s : TypeTree) (a : Sequent) (x : Sides) (p : TypeTree × TypeTree) : Type 0 where
  pub domain : p.0 ≡ x.sides_type
  pub gives : mk_comb_of (reflexive f s) a ≡ Some (sequent_of a.hyps (equation p.1 (app f x.left) (app f x.right)))

module _ (f : Nameless) (s : TypeTree) (a : Sequent) (fits : IsSome (mk_comb_of (reflexive f s) a)) where
  own : Sides
  own = record { sides_type = s; left = f; right = f }

  combined : Option Sides → Option Sequent
  combined o = comb_sides (set.union no_hyps a.hyps) (Some own) o

  unfolded : mk_comb_of (reflexive f s) a ≡ combined (dest_eq a.concl)
  unfolding own combined
  unfolded = ap (λ o. comb_sides (set.union no_hyps a.hyps) o (dest_eq a.concl)) (dest_eq_equation s f f)

  pub ap_term_sides : dest_eq a.concl ≡ None → ⊥
  unfolding combined
  ap_term_sides none = let wrong : false ≡ true = sym (ap is_some (unfolded ∙ ap combined none)) ∙ fits in absurd (cc)

  module _ (x : Sides) (found : dest_eq a.concl ≡ Some x) where
    parts : Option (TypeTree × TypeTree) → Option Sequent
    parts o = comb_parts (set.union no_hyps a.hyps) own x o

    by_parts : mk_comb_of (reflexive f s) a ≡ parts (fun_parts s)
    unfolding own combined parts
    by_parts = unfolded ∙ ap combined found

    pub ap_term_parts : fun_parts s ≡ None → ⊥
    unfolding parts
    ap_term_parts none = let wrong : false ≡ true = sym (ap is_some (by_parts ∙ ap parts none)) ∙ fits in absurd (cc)

    pub ap_term_fits : (p : TypeTree × TypeTree) → fun_parts s ≡ Some p → FitsSides f s a x p
    unfolding own parts
    ap_term_fits p is = go (type_eq p.0 x.sides_type) refl (by_parts ∙ ap parts is)
      where
        go : (b : Bool) → type_eq p.0 x.sides_type ≡ b → mk_comb_of (reflexive f s) a ≡ cond b (Some (sequent_of (set.union no_hyps a.hyps) (equation p.1 (app f x.left) (app f x.right)))) None → FitsSides f s a x p
        go true e g =
            record {
              domain = (type_cmp_decides p.0 x.sides_type).0 e;
              gives = g ∙ ap (λ (ks : Hyps). Some (sequent_of ks (equation p.1 (app f x.left) (app f x.right)))) (union_none_left hyps_total hyps_same a.hyps);
            }
        go false e g = let wrong : false ≡ true = sym (ap is_some g) ∙ fits in absurd (cc)

-- what AP_TERM gives has a derivation
pub ap_term_derived : (items : Items) (f : Nameless) (s : TypeTree) (a t : Sequent) → HasType items f s → Derived items a → mk_comb_of (reflexive f s) a ≡ Some t → Derived items t
ap_term_derived items f s a t typed d is = mk_comb_sound items (reflexive f s) a t (by_refl f s typed) d is
