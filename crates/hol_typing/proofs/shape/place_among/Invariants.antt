use Rattle.std.proofs.Common.{◌≡◌, ◌+◌, drop}
use Rattle.hol_typing.specs.Shape.{place_among}
use Rattle.hol_typing.proofs.shape.place_among.Given as goal

abbrev pub invariant-loop-i : goal.invariant-loop-i
invariant-loop-i l = place_among l.names l.name ≡ l.i + place_among (drop l.i l.names) l.name
