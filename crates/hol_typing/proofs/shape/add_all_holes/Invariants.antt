use Rattle.std.proofs.Common.{◌≡◌, drop}
use Rattle.hol_typing.specs.Holes.{add_holes}
use Rattle.hol_typing.proofs.shape.add_all_holes.Given as goal

abbrev pub invariant-loop-hole : goal.invariant-loop-hole
invariant-loop-hole l = add_holes l.initial.order.items l.holes ≡ add_holes l.order.items (drop l.hole-index l.holes)
