use Rattle.hol_just.proofs.MatchApplied.{no_variables}
use Rattle.hol_just.proofs.matching_steps.outer_variable.Goals as goal

pub returns-then-not-is_forall : goal.returns-then-not-is_forall
returns-then-not-is_forall c = no_variables c.args.formula.now c.if-not-is_forall.ensures
