-- How the logic stores the steps of a way.
use Rattle.std.specs.Prelude.{◌≡◌, ◌⊎◌, ℕ, List, Bool, true, false, refl}
use Rattle.std.proofs.Common.{inl, inr}
use Rattle.std.specs.Coded.{Coded, code_by, coded⊎, coded_bool, coded_list}
use Rattle.hol_types.specs.Tree.{TypeTree}
use Rattle.hol_terms.specs.Code.{coded_variable}
use Rattle.hol_match.specs.declared.rule_step.RuleStep.{RuleStep}
use Rattle.hol_match.specs.declared.rule_step.RuleStep.TheVariants.{At, First, Second}

abbrev pub step_to : RuleStep → (List ℕ × TypeTree) ⊎ Bool
step_to (At v) = inl v
step_to First = inr true
step_to Second = inr false

abbrev pub step_from : (List ℕ × TypeTree) ⊎ Bool → RuleStep
step_from (inl v) = At v
step_from (inr true) = First
step_from (inr false) = Second

abbrev pub step_back : (s : RuleStep) → step_from (step_to s) ≡ s
step_back (At v) = refl
step_back First = refl
step_back Second = refl

abbrev pub step_code : Coded RuleStep
step_code = code_by ((List ℕ × TypeTree) ⊎ Bool) (coded⊎ coded_variable coded_bool) step_to step_from step_back

abbrev pub way_code : Coded (List RuleStep)
way_code = coded_list step_code
