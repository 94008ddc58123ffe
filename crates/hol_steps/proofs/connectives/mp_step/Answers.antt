use Rattle.hol_just.specs.Justifies.{LeavesImplication}
use Rattle.hol_steps.proofs.Kept.{step_keeps}
use Rattle.hol_steps.proofs.connectives.mp_step.Goals as goal

pub returns-clause-just : goal.returns-clause-just
returns-clause-just c = step_keeps c.leaving_one.result (LeavesImplication c.args.th.now) c.in_ok-just.just c.in_ok-just.ensures c.leaving_one.ensures.just
