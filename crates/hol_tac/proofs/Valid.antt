-- The moves of the functions on goals are valid where these fit.
use Rattle.std.specs.Prelude.{◌≡◌, true, List, [], ◌∷◌, codes, Some}
use Rattle.std.proofs.Common.{ap, sym, ◌∙◌, subst}
use Rattle.hol_terms.specs.Nameless.{Nameless}
use Rattle.hol_terms.specs.Alpha.{strip}
use Rattle.hol_types.specs.Equal.{type_eq}
use Rattle.hol_formulas.specs.Equation.{bool_type, equation, Sides, dest_eq}
use Rattle.hol_formulas.specs.Formula.{connective_type, negation_type, falsity, implication, is_falsity, dest_conj, dest_disj, dest_imp, dest_neg}
use Rattle.hol_formulas.proofs.FormulaLaws.{dest_unary_is, dest_binary_is, is_constant_is}
use Rattle.hol_formulas.proofs.TypeTests.{same_type}
use Rattle.hol_kernel.specs.Given.{Given, given_sequent}
use Rattle.hol_kernel.specs.Sequent.{Hyps}
use Rattle.hol_kernel.proofs.Sound.{sides_is}
use Rattle.hol_goal.specs.Goal.{GoalValue}
use Rattle.hol_goal.specs.Achieves.{AreAllowed}
use Rattle.hol_just.specs.Valid.{IsValid}
use Rattle.hol_just.specs.Leaving.{concluding, assuming}
use Rattle.hol_just.specs.Justifies.{goal_at, always, holds_given, ClosesEquation, ClosesByFalsity, SplitsConjunction, SplitsIntoImplications, LeavesLeft, LeavesRight, LeavesConsequent, LeavesRefutation}
use Rattle.hol_just.specs.declared.reason.Move.{Move}

-- the conclusion, as the code has it
module _ (extra : Hyps) (goal : GoalValue) (w : Nameless) (same : w ≡ goal.conclusion) (moves : List Move) where
  pub refl_valid : (x : Sides) → dest_eq w ≡ Some x → strip x.left ≡ strip x.right → ClosesEquation x.left moves → IsValid always extra moves (goal ∷ []) []
  refl_valid x is like closes =
      subst (λ (g : Nameless). IsValid always extra moves (goal_at goal.assumptions g ∷ []) []) (sym (sides_is w x is) ∙ same)
      (closes extra goal.assumptions x.sides_type x.right like)

  pub conj_valid : (p q : Nameless) → dest_conj w ≡ Some (p, q) → SplitsConjunction moves → IsValid always extra moves (goal ∷ []) (concluding goal p ∷ concluding goal q ∷ [])
  conj_valid p q is splits =
      subst (λ (g : Nameless). IsValid always extra moves (goal_at goal.assumptions g ∷ []) (concluding goal p ∷ concluding goal q ∷ []))
      (sym (dest_binary_is (codes "/\\") connective_type w (p, q) is) ∙ same)
      (splits extra goal.assumptions p q)

  pub disj1_valid : (p q : Nameless) → dest_disj w ≡ Some (p, q) → LeavesLeft q moves → IsValid always extra moves (goal ∷ []) (concluding goal p ∷ [])
  disj1_valid p q is leaves =
      subst (λ (g : Nameless). IsValid always extra moves (goal_at goal.assumptions g ∷ []) (concluding goal p ∷ []))
      (sym (dest_binary_is (codes "\\/") connective_type w (p, q) is) ∙ same)
      (leaves extra goal.assumptions p)

  pub disj2_valid : (p q : Nameless) → dest_disj w ≡ Some (p, q) → LeavesRight p moves → IsValid always extra moves (goal ∷ []) (concluding goal q ∷ [])
  disj2_valid p q is leaves =
      subst (λ (g : Nameless). IsValid always extra moves (goal_at goal.assumptions g ∷ []) (concluding goal q ∷ []))
      (sym (dest_binary_is (codes "\\/") connective_type w (p, q) is) ∙ same)
      (leaves extra goal.assumptions q)

  pub disch_valid : (p q : Nameless) → dest_imp w ≡ Some (p, q) → LeavesConsequent p moves → IsValid always extra moves (goal ∷ []) (assuming goal p q ∷ [])
  disch_valid p q is leaves =
      subst (λ (g : Nameless). IsValid always extra moves (goal_at goal.assumptions g ∷ []) (assuming goal p q ∷ []))
      (sym (dest_binary_is (codes "==>") connective_type w (p, q) is) ∙ same)
      (leaves extra goal.assumptions q)

  pub disch_neg_valid : (p : Nameless) → dest_neg w ≡ Some p → LeavesRefutation p moves → IsValid always extra moves (goal ∷ []) (assuming goal p falsity ∷ [])
  disch_neg_valid p is leaves =
      subst (λ (g : Nameless). IsValid always extra moves (goal_at goal.assumptions g ∷ []) (assuming goal p falsity ∷ []))
      (sym (dest_unary_is (codes "~") negation_type w p is) ∙ same)
      (leaves extra goal.assumptions)

  pub eq_valid :
      (x : Sides) → dest_eq w ≡ Some x → type_eq x.sides_type bool_type ≡ true → SplitsIntoImplications moves →
      IsValid always extra moves (goal ∷ []) (concluding goal (implication x.left x.right) ∷ concluding goal (implication x.right x.left) ∷ [])
  eq_valid x is formulas splits =
      subst (λ (g : Nameless). IsValid always extra moves (goal_at goal.assumptions g ∷ []) (concluding goal (implication x.left x.right) ∷ concluding goal (implication x.right x.left) ∷ []))
      (ap (λ a. equation a x.left x.right) (sym (same_type x.sides_type bool_type formulas)) ∙ sym (sides_is w x is) ∙ same)
      (splits extra goal.assumptions x.left x.right)

  pub contr_valid :
      (th : Given) (c : Nameless) → c ≡ (given_sequent th).concl → is_falsity c ≡ true → AreAllowed extra goal.assumptions (given_sequent th).hyps → ClosesByFalsity w th moves →
      IsValid (holds_given th) extra moves (goal ∷ []) []
  contr_valid th c concl false_is allowed closes =
      subst (λ (g : Nameless). IsValid (holds_given th) extra moves (goal_at goal.assumptions g ∷ []) []) same
      (closes extra goal.assumptions (sym concl ∙ is_constant_is (codes "F") bool_type c false_is) allowed)
