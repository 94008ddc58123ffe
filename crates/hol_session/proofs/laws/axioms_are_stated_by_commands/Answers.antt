use Rattle.hol_session.proofs.Axioms.{rest_on_stated}
use Rattle.hol_session.proofs.laws.axioms_are_stated_by_commands.Goals as goal

pub returns : goal.returns
returns c = rest_on_stated
