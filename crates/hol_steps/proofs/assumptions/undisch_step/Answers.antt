use Rattle.hol_just.specs.Justifies.{TakesOut}
use Rattle.hol_steps.proofs.Kept.{step_keeps}
use Rattle.hol_steps.proofs.assumptions.undisch_step.Goals as goal

pub returns-clause-just : goal.returns-clause-just
returns-clause-just c = step_keeps c.leaving_one.result TakesOut c.in_ok-just.just c.in_ok-just.ensures c.leaving_one.ensures.just
