use Rattle.hol_subst.proofs.Closing.{nameless_abs}
use Rattle.hol_model.proofs.definitions.abstractions_bind.Goals as goal

pub returns : goal.returns
returns c = nameless_abs
