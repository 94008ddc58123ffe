use Rattle.std.proofs.Common.{bytes_eq, map, take}
use Rattle.std.specs.List.{IsDistinct}
use Rattle.hol_registry.proofs.named.first_again.Given as goal

abbrev pub invariant-loop-i : goal.invariant-loop-i
invariant-loop-i g l = IsDistinct bytes_eq (map g.T.Named.name_of (take l.i l.items))
