use Rattle.hol_model.proofs.NamesOnce.{names_once}
use Rattle.hol_model.proofs.definitions.names_stand_once.Goals as goal

pub returns : goal.returns
returns c = names_once
