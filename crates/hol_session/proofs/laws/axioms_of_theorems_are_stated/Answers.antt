use Rattle.hol_session.proofs.Axioms.{told_on_stated}
use Rattle.hol_session.proofs.laws.axioms_of_theorems_are_stated.Goals as goal

pub returns : goal.returns
returns c = told_on_stated
