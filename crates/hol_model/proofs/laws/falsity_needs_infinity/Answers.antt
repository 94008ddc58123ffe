use Rattle.hol_model.proofs.PreludeConsistent.{prelude_consistent}
use Rattle.hol_model.proofs.laws.falsity_needs_infinity.Goals as goal

pub returns : goal.returns
returns c = prelude_consistent
