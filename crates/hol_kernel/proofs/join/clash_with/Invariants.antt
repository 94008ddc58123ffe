use Rattle.std.proofs.Common.{◌≡◌, drop}
use Rattle.hol_kernel.specs.Clashing.{clash_with}
use Rattle.hol_kernel.proofs.join.clash_with.Given as goal

abbrev pub invariant-loop-x : goal.invariant-loop-x
invariant-loop-x l = clash_with l.items l.y ≡ clash_with (drop l.x-index l.items) l.y
