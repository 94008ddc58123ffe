use Rattle.std.proofs.Common.{[]}
use Rattle.hol_terms.specs.Nameless.{nameless}
use Rattle.hol_just.specs.Justifies.{LeavesLeft}
use Rattle.hol_steps.proofs.Kept.{step_keeps}
use Rattle.hol_steps.proofs.connectives.disj1_step.Goals as goal

pub returns-clause-just : goal.returns-clause-just
returns-clause-just c = step_keeps c.leaving_one.result (LeavesLeft (nameless [] c.args.q.now)) c.in_ok-just.just c.in_ok-just.ensures c.leaving_one.ensures.just
