use Rattle.hol_model.proofs.Consistency.{infinite_consistent}
use Rattle.hol_model.proofs.infinite.falsity_fails_in_infinite_universe.Goals as goal

pub returns : goal.returns
returns g c = infinite_consistent _ _
