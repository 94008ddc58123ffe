-- AP_THM by the primitive rules.
use Rattle.std.specs.Prelude.{◌≡◌, Some}
use Rattle.std.proofs.Common.{ap, ◌∙◌, subst}
use Rattle.hol_types.specs.Tree.{TypeTree}
use Rattle.hol_types.specs.Fun.{fun_parts}
use Rattle.hol_terms.specs.Nameless.{Nameless, app}
use Rattle.hol_formulas.specs.Equation.{bool_type, equation}
use Rattle.hol_formulas.proofs.TypeTests.{fun_parts_is}
use Rattle.hol_kernel.specs.Items.{Items}
use Rattle.hol_kernel.specs.Sequent.{Hyps, Sequent, sequent_of}
use Rattle.hol_kernel.specs.Typing.{HasType}
use Rattle.hol_kernel.specs.Rules.{reflexive, mk_comb_of}
use Rattle.hol_kernel.specs.Derivation.{Derives, by_refl}
use Rattle.hol_kernel.specs.Theorem.{theorem_over}
use Rattle.hol_kernel.proofs.Sound.{Derived, mk_comb_sound}
use Rattle.hol_kernel.proofs.WellTyped.{sides_typed, theorem_typed}
use Rattle.hol_equal.specs.Applied.{combined, at_argument, lhs, rhs, side_type, range_of}
use Rattle.hol_equal.proofs.HypSets.{none_right}

-- AP_THM: REFL of the argument, and MK_COMB
module _ (basis : Items) (a : Sequent) (x : Nameless) (s : TypeTree) (typed : HasType basis x s) (applies : mk_comb_of a (reflexive x s) ≡ Some (combined a (reflexive x s))) (d : Derived basis a) where
  ap_thm_derived : Derived basis (at_argument x a)
  ap_thm_derived =
      subst (λ (hs : Hyps). Derived basis (sequent_of hs (equation (range_of (side_type a.concl)) (app (lhs a.concl) x) (app (rhs a.concl) x)))) (none_right a.hyps)
      (mk_comb_sound basis a (reflexive x s) (combined a (reflexive x s)) d (by_refl x s typed) applies)

  -- the sides that it has
  module _ (f : TypeTree) (l r : Nameless) (is : a.concl ≡ equation f l r) (p : TypeTree × TypeTree) (parts : fun_parts f ≡ Some p) where
    pub at_argument_is : at_argument x a ≡ sequent_of a.hyps (equation p.1 (app l x) (app r x))
    at_argument_is = (λ i. sequent_of a.hyps (equation (range_of (side_type (is i))) (app (lhs (is i)) x) (app (rhs (is i)) x))) ∙ ap (λ (u : TypeTree). sequent_of a.hyps (equation (range_of u) (app l x) (app r x))) (fun_parts_is f p parts)

    pub at_argument_derived : Derives basis a.hyps (equation p.1 (app l x) (app r x))
    at_argument_derived = subst (Derived basis) at_argument_is ap_thm_derived

    pub at_argument_typed : HasType basis (app l x) p.1 × HasType basis (app r x) p.1
    at_argument_typed = sides_typed basis p.1 bool_type (app l x) (app r x) (theorem_typed (theorem_over basis a.hyps (equation p.1 (app l x) (app r x))) at_argument_derived).conclusion
