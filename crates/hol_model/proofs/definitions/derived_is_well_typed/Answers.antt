use Rattle.hol_kernel.proofs.WellTyped.{theorem_typed}
use Rattle.hol_model.proofs.definitions.derived_is_well_typed.Goals as goal

pub returns : goal.returns
returns c = theorem_typed
