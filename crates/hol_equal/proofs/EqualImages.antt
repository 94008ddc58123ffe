-- A formula with either side of an equation for a variable, and SUBST by the primitive rules: AP_TERM at the abstraction of the variable,
-- BETA_CONV of both sides, SYM and TRANS, and EQ_MP.
use Rattle.std.specs.Prelude.{◌≡◌, ℕ, List, [], refl}
use Rattle.std.specs.FinSet as set
use Rattle.std.proofs.Common.{◌∙◌, subst}
use Rattle.hol_types.specs.Tree.{TypeTree}
use Rattle.hol_types.specs.Fun.{fun_type}
use Rattle.hol_terms.specs.Named.{Named}
use Rattle.hol_terms.specs.Nameless.{Nameless, app, nameless}
use Rattle.hol_terms.specs.Alpha.{strip}
use Rattle.hol_subst.specs.Closing.{bind}
use Rattle.hol_subst.proofs.Closing.{closed_named}
use Rattle.hol_formulas.specs.Equation.{bool_type, equation}
use Rattle.hol_kernel.specs.Items.{Items}
use Rattle.hol_kernel.specs.Sequent.{Hyps, no_hyps, Sequent}
use Rattle.hol_kernel.specs.Typing.{HasType}
use Rattle.hol_kernel.specs.Derivation.{Derives, by_refl, by_trans, by_mk_comb, by_eq_mp}
use Rattle.hol_kernel.specs.Theorem.{theorem_over}
use Rattle.hol_kernel.proofs.EqualSteps.{sym_derived}
use Rattle.hol_kernel.proofs.Sound.{Derived}
use Rattle.hol_kernel.proofs.WellTyped.{own_type_stands, sides_typed, applied_typed, theorem_typed}
use Rattle.hol_equal.specs.Rules.{m_with}
use Rattle.hol_equal.proofs.Abstractions.{bound_typed}
use Rattle.hol_equal.proofs.Beta.{image_derived, image_typed}
use Rattle.hol_equal.proofs.HypSets.{none_left, none_right}

derived_typed : (items : Items) (hs : Hyps) (n : Nameless) → Derives items hs n → HasType items n bool_type
derived_typed items hs n d = (theorem_typed (theorem_over items hs n) d).conclusion

-- for the formula m and an equation of l and r
module _ (basis : Items) (v : List ℕ × TypeTree) (m : Nameless) (hs : Hyps) (l r : Named) (typed : HasType basis m bool_type) (d : Derives basis hs (equation v.1 (nameless [] l) (nameless [] r))) where
  pub both_typed : HasType basis (nameless [] l) v.1 × HasType basis (nameless [] r) v.1
  both_typed = sides_typed basis v.1 bool_type (nameless [] l) (nameless [] r) (derived_typed basis hs (equation v.1 (nameless [] l) (nameless [] r)) d)

  function_typed : HasType basis (bind v m) (fun_type v.1 bool_type)
  function_typed = bound_typed basis v bool_type m (own_type_stands basis (nameless [] l) v.1 both_typed.0) typed

  applied : (x : Named) → HasType basis (nameless [] x) v.1 → HasType basis (app (bind v m) (nameless [] x)) bool_type
  applied x has = applied_typed basis v.1 bool_type (bind v m) (nameless [] x) function_typed has

  image : (x : Named) → HasType basis (nameless [] x) v.1 → Derives basis no_hyps (equation bool_type (app (bind v m) (nameless [] x)) (m_with (nameless [] x) v m))
  image x has = image_derived basis v m (nameless [] x) bool_type (closed_named x) (applied x has)

  pub right_typed : HasType basis (m_with (nameless [] r) v m) bool_type
  right_typed = image_typed basis v m (nameless [] r) bool_type (closed_named r) (applied r both_typed.1)

  images_derived : Derives basis hs (equation bool_type (m_with (nameless [] l) v m) (m_with (nameless [] r) v m))
  images_derived =
      let f = bind v m in
      let s = nameless [] l in
      let t = nameless [] r in
      let under = by_mk_comb no_hyps hs v.1 bool_type f f s t (by_refl f (fun_type v.1 bool_type) function_typed) d in
      let left = image l both_typed.0 in
      let turned = sym_derived basis no_hyps bool_type (app f s) (m_with s v m) (derived_typed basis no_hyps (equation bool_type (app f s) (m_with s v m)) left) left in
      let first = by_trans no_hyps (set.union no_hyps hs) bool_type bool_type (m_with s v m) (app f s) (app f s) (app f t) turned under refl in
      let whole = by_trans (set.union no_hyps (set.union no_hyps hs)) no_hyps bool_type bool_type (m_with s v m) (app f t) (app f t) (m_with t v m) first (image r both_typed.1) refl in
      subst (λ (ks : Hyps). Derives basis ks (equation bool_type (m_with s v m) (m_with t v m)))
      (none_right (set.union no_hyps (set.union no_hyps hs)) ∙ none_left (set.union no_hyps hs) ∙ none_left hs) whole

  pub substituted_derived : (b : Sequent) → strip (m_with (nameless [] l) v m) ≡ strip b.concl → Derived basis b → Derives basis (set.union hs b.hyps) (m_with (nameless [] r) v m)
  substituted_derived b fits e = by_eq_mp hs b.hyps bool_type (m_with (nameless [] l) v m) (m_with (nameless [] r) v m) b.concl images_derived e fits
