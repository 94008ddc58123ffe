use Rattle.hol_model.proofs.Consistency.{theorem_consistent}
use Rattle.hol_model.proofs.laws.false_theorem_needs_infinity.Goals as goal

pub returns : goal.returns
returns c = theorem_consistent
