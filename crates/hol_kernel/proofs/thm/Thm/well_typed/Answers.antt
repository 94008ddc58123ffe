use Rattle.hol_kernel.proofs.WellTyped.{theorem_typed}
use Rattle.hol_kernel.proofs.thm.Thm.well_typed.Goals as goal

pub returns : goal.returns
returns c = theorem_typed c.args.self.now c.promise.ensures.derives
