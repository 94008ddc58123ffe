-- Equations of applications, taken apart.
use Rattle.std.specs.Prelude.{◌≡◌, [], Some}
use Rattle.std.specs.Option.{option_and_then}
use Rattle.std.proofs.Common.{ap, sym, ◌∙◌}
use Rattle.hol_terms.specs.Named.{Named, comb, named_type}
use Rattle.hol_terms.specs.Nameless.{Nameless, nameless}
use Rattle.hol_formulas.specs.Equation.{Sides, dest_comb, dest_eq, equation}
use Rattle.hol_kernel.proofs.Sound.{sides_is}
use Rattle.hol_goal.specs.Goal.{GoalValue}
use Rattle.hol_just.specs.EquationTacs.{of_applications}
use Rattle.hol_steps.specs.Applications.{OnApplications, AreApplications}

module _ (goal : GoalValue) (w : Nameless) (same : w ≡ goal.conclusion) where
  module _ (x : Sides) (is : dest_eq w ≡ Some x) where
    taken : (on : OnApplications) → of_applications on goal ≡ option_and_then (λ p. option_and_then (on p) (dest_comb x.right)) (dest_comb x.left)
    taken on = ap (option_and_then (λ s. option_and_then (λ p. option_and_then (on p) (dest_comb s.right)) (dest_comb s.left))) (ap dest_eq (sym same) ∙ is)

    pub both_sides :
        (l r f a g b : Named) → x.left ≡ nameless [] l → x.right ≡ nameless [] r → l ≡ comb f a → r ≡ comb g b → named_type l ≡ Some x.sides_type → named_type r ≡ Some x.sides_type →
        AreApplications goal f a g b
    both_sides l r f a g b left right lefts rights l_typed r_typed =
        let p : x.left ≡ nameless [] (comb f a) = left ∙ ap (nameless []) lefts in
        let q : x.right ≡ nameless [] (comb g b) = right ∙ ap (nameless []) rights in
        record {
          range = x.sides_type;
          is = sym same ∙ sides_is w x is ∙ (λ i. equation x.sides_type (p i) (q i));
          left = ap named_type (sym lefts) ∙ l_typed;
          right = ap named_type (sym rights) ∙ r_typed;
          meaning = λ on.
              taken on
              ∙ (λ i. option_and_then (λ s. option_and_then (on s) (dest_comb (q i))) (dest_comb (p i)));
        }
