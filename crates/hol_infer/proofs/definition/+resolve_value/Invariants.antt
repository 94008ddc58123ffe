use Rattle.std.proofs.Common.{length}
use Rattle.hol_infer.proofs.definition.+resolve_value.Given as goal

abbrev pub decreases-resolve_value : goal.decreases-resolve_value
decreases-resolve_value l = length l.variables.now
