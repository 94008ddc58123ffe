use Rattle.hol_infer.proofs.Standing.{reading_typed}
use Rattle.hol_infer.proofs.StandingLaws.{reading_stands, definition_stands}
use Rattle.hol_infer.proofs.laws.readings_stand.Goals as goal

pub returns-clause-typed : goal.returns-clause-typed
returns-clause-typed c = reading_typed

pub returns-clause-terms : goal.returns-clause-terms
returns-clause-terms c = reading_stands

pub returns-clause-definitions : goal.returns-clause-definitions
returns-clause-definitions c = definition_stands
