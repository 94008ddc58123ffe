use Rattle.hol_resolve.proofs.Standing.{readings_are_over, readings_widen}
use Rattle.hol_resolve.proofs.laws.readings_are_over.Goals as goal

pub returns-clause-over : goal.returns-clause-over
returns-clause-over c = readings_are_over

pub returns-clause-larger : goal.returns-clause-larger
returns-clause-larger c = readings_widen
