use Rattle.hol_model.proofs.WellTyped.{stands, typed_is}
use Rattle.hol_model.proofs.definitions.typed_by_rules.Goals as goal

pub returns-clause-types : goal.returns-clause-types
returns-clause-types c = stands

pub returns-clause-terms : goal.returns-clause-terms
returns-clause-terms c = typed_is
