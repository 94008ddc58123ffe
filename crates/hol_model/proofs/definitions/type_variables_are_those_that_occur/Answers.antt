use Rattle.hol_types.proofs.Names.{tyvars_among, tyvars_ascending}
use Rattle.hol_model.proofs.definitions.type_variables_are_those_that_occur.Goals as goal

pub returns-clause-occur : goal.returns-clause-occur
returns-clause-occur c = tyvars_among

pub returns-clause-ordered : goal.returns-clause-ordered
returns-clause-ordered c = tyvars_ascending
