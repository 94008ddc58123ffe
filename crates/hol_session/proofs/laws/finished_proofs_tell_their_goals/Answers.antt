use Rattle.hol_session.proofs.Finished.{goals_told}
use Rattle.hol_session.proofs.laws.finished_proofs_tell_their_goals.Goals as goal

pub returns : goal.returns
returns c = goals_told
