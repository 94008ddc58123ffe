use Rattle.hol_just.proofs.Handed.{valid_from_assumption}
use Rattle.hol_just.proofs.laws.valid_from_assumption.Goals as goal

pub returns : goal.returns
returns c = valid_from_assumption
