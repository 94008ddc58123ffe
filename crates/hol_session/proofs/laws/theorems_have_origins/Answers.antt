use Rattle.hol_session.proofs.Origins.{have_origins}
use Rattle.hol_session.proofs.laws.theorems_have_origins.Goals as goal

pub returns : goal.returns
returns c = have_origins
