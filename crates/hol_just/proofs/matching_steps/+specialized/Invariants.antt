use Rattle.std.proofs.Common.{length}
use Rattle.hol_just.specs.Matching.{bound_variables}
use Rattle.hol_just.proofs.matching_steps.+specialized.Given as goal

abbrev pub decreases-specialized : goal.decreases-specialized
decreases-specialized l = length (bound_variables l.formula.now)
