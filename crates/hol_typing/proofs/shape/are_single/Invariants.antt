use Rattle.std.proofs.Common.{take}
use Rattle.hol_typing.specs.Shape.{AreSingle}
use Rattle.hol_typing.proofs.shape.are_single.Given as goal

abbrev pub invariant-loop-pair : goal.invariant-loop-pair
invariant-loop-pair l = AreSingle (take l.pair-index l.bound)
