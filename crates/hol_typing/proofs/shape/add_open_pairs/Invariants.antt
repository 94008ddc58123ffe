use Rattle.std.proofs.Common.{◌≡◌, ◌++◌, take}
use Rattle.hol_typing.specs.Graph.{pairs_from}
use Rattle.hol_typing.specs.Holes.{open_type}
use Rattle.hol_typing.proofs.shape.add_open_pairs.Given as goal

abbrev pub invariant-loop-i : goal.invariant-loop-i
invariant-loop-i l = l.pairs.items ≡ l.initial.pairs.items ++ pairs_from (open_type l.order) l.base (take l.i l.names)
