-- Goals whose conclusion was converted: what is left of them, and the moves.
use Rattle.std.specs.Prelude.{◌≡◌, Bool, true, false, cond, List, [], ◌∷◌, ◌++◌, codes, Result, Ok, Err, IfOk, Some, refl}
use Rattle.std.proofs.Common.{ap, sym, ◌∙◌, subst}
use Rattle.hol_terms.specs.Named.{Named, named_type}
use Rattle.hol_terms.specs.Nameless.{Nameless, nameless, nameless_type}
use Rattle.hol_terms.proofs.Typing.{type_outside}
use Rattle.hol_formulas.specs.Equation.{bool_type}
use Rattle.hol_formulas.specs.Formula.{is_truth}
use Rattle.hol_formulas.proofs.FormulaLaws.{is_constant_is}
use Rattle.hol_kernel.specs.Items.{Items}
use Rattle.hol_kernel.specs.Sequent.{Hyps}
use Rattle.hol_conv.specs.declared.rewritten.Rewritten.{Rewritten}
use Rattle.hol_goal.specs.Goal.{GoalValue}
use Rattle.hol_just.specs.Gives.{moved}
use Rattle.hol_just.specs.Leaving.{concluding}
use Rattle.hol_just.specs.ConversionTacs.{left_with}
use Rattle.hol_just.specs.Valid.{IsValid}
use Rattle.hol_just.specs.Justifies.{goal_at, always, ClosesTruth, LeavesConverted}
use Rattle.hol_just.specs.declared.reason.Move.{Move}
use Rattle.hol_just.specs.declared.tried.Step.{Step}
use Rattle.hol_just.proofs.Validity.{valid_at, valid_under}
use Rattle.hol_steps.specs.Converting.{IsConversion, LeadsBy}

-- the moves before lead to the goal with the conclusion u
abbrev Leads : GoalValue → Nameless → List Move → List Move → Type 0
Leads goal u before all = (suits : Items → Bool) (extra : Hyps) → IsValid suits extra before (goal ∷ []) (concluding goal u ∷ []) → IsValid suits extra all (goal ∷ []) (left_with goal u)

pub closed_leads : (goal : GoalValue) (u : Nameless) (before closes all : List Move) → true ≡ is_truth u → ClosesTruth closes → all ≡ before ++ moved 0 closes → Leads goal u before all
closed_leads goal u before closes all is c e suits extra valid =
    subst (λ (ms : List Move). IsValid suits extra ms (goal ∷ []) (left_with goal u)) (sym e)
    (subst (λ (b : Bool). IsValid suits extra (before ++ moved 0 closes) (goal ∷ []) (cond b [] (concluding goal u ∷ []))) is
    (valid_at suits extra before closes (goal ∷ []) [] (concluding goal u ∷ []) [] [] 0 refl valid
    (valid_under always suits extra closes (concluding goal u ∷ []) [] (λ basis suit. refl)
    (subst (λ (n : Nameless). IsValid always extra closes (goal_at goal.assumptions n ∷ []) []) (sym (is_constant_is (codes "T") bool_type u (sym is))) (c extra goal.assumptions)))))

pub open_leads : (goal : GoalValue) (u : Nameless) (before all : List Move) → false ≡ is_truth u → all ≡ before → Leads goal u before all
open_leads goal u before all is e suits extra valid =
    subst (λ (ms : List Move). IsValid suits extra ms (goal ∷ []) (left_with goal u)) (sym e)
    (subst (λ (b : Bool). IsValid suits extra before (goal ∷ []) (cond b [] (concluding goal u ∷ []))) is valid)

pub step_leads : {E : Type 0} (r : Result Step E) (goal : GoalValue) (u : Nameless) (before moves : List Move) → Leads goal u before moves → IfOk r (λ step. step.just ≡ moves) → IfOk r (λ step. Leads goal u before step.just)
step_leads (Ok step) goal u before moves h e = subst (Leads goal u before) (sym e) h
step_leads (Err fault) goal u before moves h e = tt

-- ---- a conversion

-- what a formula became is one
pub converted_formula : (goal : GoalValue) (w : Named) (r : Rewritten) → IsConversion goal.conclusion r → nameless [] w ≡ goal.conclusion → named_type w ≡ Some bool_type → nameless_type [] r.trace.new ≡ nameless_type [] r.trace.old → named_type r.term ≡ Some bool_type
converted_formula goal w r is same typed kept =
    sym (type_outside r.term) ∙ ap (nameless_type []) (sym is.new) ∙ kept ∙ ap (nameless_type []) (is.old ∙ sym same) ∙ type_outside w ∙ typed

pub converted_valid :
    (goal : GoalValue) (r : Rewritten) (moves : List Move) (step : Step) → IsConversion goal.conclusion r → LeavesConverted r.trace moves → Leads goal (nameless [] r.term) moves step.just →
    step.goals.items ≡ left_with goal (nameless [] r.term) → LeadsBy goal r.trace.used step
converted_valid goal r moves step is leaves leads goals suits extra held allowed =
    subst (λ (gs : List GoalValue). IsValid suits extra step.just (goal ∷ []) gs) (sym goals)
    (leads suits extra
    (subst (λ (n : Nameless). IsValid suits extra moves (goal_at goal.assumptions n ∷ []) (concluding goal (nameless [] r.term) ∷ [])) is.old
    (subst (λ (n : Nameless). IsValid suits extra moves (goal_at goal.assumptions r.trace.old ∷ []) (goal_at goal.assumptions n ∷ [])) is.new
    (leaves suits extra goal.assumptions held allowed))))
