use Rattle.hol_session.proofs.Theorems.{machine_tells}
use Rattle.hol_session.proofs.laws.replies_tell_of_theorems.Goals as goal

pub returns : goal.returns
returns c = machine_tells
