use Rattle.std.proofs.Common.{length}
use Rattle.hol_just.proofs.matching.+chosen.Given as goal

abbrev pub decreases-chosen : goal.decreases-chosen
decreases-chosen l = length l.variables.now
