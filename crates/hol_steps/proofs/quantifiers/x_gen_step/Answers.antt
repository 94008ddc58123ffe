use Rattle.hol_just.specs.Justifies.{LeavesProperty}
use Rattle.hol_steps.proofs.Kept.{step_keeps}
use Rattle.hol_steps.proofs.quantifiers.x_gen_step.Goals as goal

pub returns-clause-just : goal.returns-clause-just
returns-clause-just c = step_keeps c.leaving_one.result (LeavesProperty c.args.v.now) c.in_ok-just.just c.in_ok-just.ensures c.leaving_one.ensures.just
