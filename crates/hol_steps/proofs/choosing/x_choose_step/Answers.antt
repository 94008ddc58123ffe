use Rattle.hol_just.specs.Justifies.{LeavesChosen}
use Rattle.hol_steps.proofs.Kept.{step_keeps}
use Rattle.hol_steps.proofs.choosing.x_choose_step.Goals as goal

pub returns-clause-just : goal.returns-clause-just
returns-clause-just c = step_keeps c.leaving_one.result (LeavesChosen c.args.v.now c.args.th.now) c.in_ok-just.just c.in_ok-just.ensures c.leaving_one.ensures.just
