use Rattle.std.proofs.Common.{◌≡◌, drop}
use Rattle.hol_kernel.specs.Clashing.{clash_between}
use Rattle.hol_kernel.proofs.join.clash_between.Given as goal

abbrev pub invariant-loop-y : goal.invariant-loop-y
invariant-loop-y l = clash_between l.items l.others ≡ clash_between l.items (drop l.y-index l.others)
