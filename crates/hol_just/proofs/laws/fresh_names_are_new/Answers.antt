use Rattle.hol_just.proofs.FreshLaws.{new_names}
use Rattle.hol_just.proofs.laws.fresh_names_are_new.Goals as goal

pub returns : goal.returns
returns c = λ names avoid base. new_names avoid names base
