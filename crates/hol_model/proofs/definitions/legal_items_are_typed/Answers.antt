use Rattle.hol_model.proofs.ItemsTyped.{legal_typed}
use Rattle.hol_model.proofs.definitions.legal_items_are_typed.Goals as goal

pub returns : goal.returns
returns c = legal_typed
