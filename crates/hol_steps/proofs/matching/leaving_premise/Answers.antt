use Rattle.std.proofs.Common.{[]}
use Rattle.hol_terms.specs.Nameless.{nameless}
use Rattle.hol_steps.specs.Matching.{LeavesByGeneral}
use Rattle.hol_steps.proofs.Kept.{step_keeps}
use Rattle.hol_steps.proofs.matching.leaving_premise.Goals as goal

pub returns-clause-just : goal.returns-clause-just
returns-clause-just c =
    step_keeps c.leaving_one.result (LeavesByGeneral c.args.th.now c.args.opened.now.variables.items c.args.variables.now (nameless [] c.args.premise.now) c.args.goal.now.conclusion)
    c.in_ok-just.just c.in_ok-just.ensures c.leaving_one.ensures.just
