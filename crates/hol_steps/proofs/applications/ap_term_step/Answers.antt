use Rattle.std.proofs.Common.{[]}
use Rattle.hol_terms.specs.Nameless.{nameless}
use Rattle.hol_just.specs.Justifies.{LeavesArguments}
use Rattle.hol_steps.proofs.Kept.{step_keeps}
use Rattle.hol_steps.proofs.applications.ap_term_step.Goals as goal

pub returns-clause-just : goal.returns-clause-just
returns-clause-just c = step_keeps c.leaving_one.result (LeavesArguments (nameless [] c.args.f.now)) c.in_ok-just.just c.in_ok-just.ensures c.leaving_one.ensures.just
