use Rattle.hol_just.proofs.Validity.{valid_then}
use Rattle.hol_just.proofs.laws.valid_one_after_the_other.Goals as goal

pub returns : goal.returns
returns c = valid_then
