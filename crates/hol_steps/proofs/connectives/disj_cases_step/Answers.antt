use Rattle.hol_just.specs.Justifies.{LeavesCases}
use Rattle.hol_steps.proofs.Kept.{step_keeps}
use Rattle.hol_steps.proofs.connectives.disj_cases_step.Goals as goal

pub returns-clause-just : goal.returns-clause-just
returns-clause-just c = step_keeps c.leaving_two.result (LeavesCases c.args.th.now) c.in_ok-just.just c.in_ok-just.ensures c.leaving_two.ensures.just
