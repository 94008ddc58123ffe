use Rattle.std.proofs.Common.{◌≡◌, ◌++◌, take}
use Rattle.hol_just.specs.Gives.{moved}
use Rattle.hol_just.proofs.just.add_moves.Given as goal

abbrev pub invariant-loop-one : goal.invariant-loop-one
invariant-loop-one l = l.to.items ≡ l.fn.to.items ++ moved l.place (take l.one-index l.moves)
