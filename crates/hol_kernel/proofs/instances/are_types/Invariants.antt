use Rattle.std.proofs.Common.{◌≡◌, drop}
use Rattle.hol_kernel.specs.Typing.{are_types_for}
use Rattle.hol_kernel.proofs.instances.are_types.Given as goal

abbrev pub invariant-loop-pair : goal.invariant-loop-pair
invariant-loop-pair l = are_types_for l.basis l.pairs ≡ are_types_for l.basis (drop l.pair-index l.pairs)
