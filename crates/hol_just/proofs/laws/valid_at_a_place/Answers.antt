use Rattle.hol_just.proofs.Validity.{valid_at}
use Rattle.hol_just.proofs.laws.valid_at_a_place.Goals as goal

pub returns : goal.returns
returns c = valid_at
