use Rattle.hol_just.specs.Justifies.{SplitsApplications}
use Rattle.hol_steps.proofs.Kept.{step_keeps}
use Rattle.hol_steps.proofs.applications.mk_comb_step.Goals as goal

pub returns-clause-just : goal.returns-clause-just
returns-clause-just c = step_keeps c.leaving_two.result SplitsApplications c.in_ok-just.just c.in_ok-just.ensures c.leaving_two.ensures.just
