use Rattle.std.proofs.Common.{◌∙◌}
use Rattle.hol_steps.proofs.matching.match_mp_step.Goals as goal

pub opened_step-requires-clause-own : goal.opened_step-requires-clause-own
opened_step-requires-clause-own c = c.deref-2.ensures.value ∙ c.in_ok-own.ensures
