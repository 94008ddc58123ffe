use Rattle.std.proofs.Common.{◌∷◌, ◌∙◌, ap, subst}
use Rattle.hol_goal.specs.Goal.{GoalValue}
use Rattle.hol_terms.specs.Nameless.{Nameless}
use Rattle.hol_just.specs.Answering.{IsJustified}
use Rattle.hol_just.specs.Leaving.{concluding}
use Rattle.hol_combine.specs.ExprView.{theorem_tac_value}
use Rattle.hol_combine.specs.Runs.{handed}
use Rattle.hol_combine.proofs.Handed.{valid_subgoal}
use Rattle.hol_combine.proofs.theorem_tacs.subgoal_then.Goals as goal

pub returns-clause-valid : goal.returns-clause-valid
returns-clause-valid g c =
    let called = theorem_tac_value c.args.tac.now in
    valid_subgoal c.args.p.now called c.args.goal.now c.in_ok-ran.ran.step c.in_ok-after_cut.field-0.step.just c.in_ok-after_cut.field-0.step.goals.items
    (subst (λ (p : Nameless). IsJustified (handed called p).args c.args.goal.now c.in_ok-ran.ran.step) c.term-2.ensures.term c.in_ok-ran.ensures.valid)
    c.in_ok-after_cut.ensures.just
    (c.in_ok-after_cut.ensures.goals ∙ ap (λ (goal : GoalValue). goal ∷ c.in_ok-ran.ran.step.goals.items) (c.in_ok-first.ensures ∙ ap (concluding c.args.goal.now) c.term.ensures.term))
