use Rattle.std.proofs.Common.{◌≡◌, ◌++◌, take}
use Rattle.hol_kernel.proofs.join.copy_to.Given as goal

abbrev pub invariant-loop-x : goal.invariant-loop-x
invariant-loop-x l = l.all.items ≡ l.initial.all.items ++ take l.x-index l.items
