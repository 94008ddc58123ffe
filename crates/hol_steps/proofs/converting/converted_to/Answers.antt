use Rattle.hol_steps.proofs.ConvertedGoals.{converted_formula, converted_valid}
use Rattle.hol_steps.proofs.converting.converted_to.Goals as goal

pub converted_step-requires : goal.converted_step-requires
converted_step-requires c =
    converted_formula c.args.goal.now c.conclusion-conclusion.result.now c.args.rewritten c.requires c.conclusion-conclusion.ensures.term c.conclusion-conclusion.ensures.typed c.conversion_typed.ensures

pub returns-clause-valid : goal.returns-clause-valid
returns-clause-valid c =
    converted_valid c.args.goal.now c.args.rewritten c.in_ok-just.just c.in_ok-step.step c.requires c.in_ok-just.ensures c.in_ok-step.ensures.just c.in_ok-step.ensures.goals
