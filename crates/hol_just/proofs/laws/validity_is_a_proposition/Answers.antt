use Rattle.hol_just.specs.Proposition.{valid_prop}
use Rattle.hol_just.proofs.laws.validity_is_a_proposition.Goals as goal

pub returns : goal.returns
returns c = valid_prop
