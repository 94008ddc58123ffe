use Rattle.std.proofs.Common.{◌≡◌, take}
use Rattle.hol_just.proofs.just.Just.copy.Given as goal

abbrev pub invariant-loop-one : goal.invariant-loop-one
invariant-loop-one l = l.moves.items ≡ take l.one-index l.one-items
