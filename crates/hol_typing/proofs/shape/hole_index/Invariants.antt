use Rattle.std.proofs.Common.{◌≡◌, ◌+◌, drop}
use Rattle.hol_typing.specs.Holes.{hole_index}
use Rattle.hol_typing.proofs.shape.hole_index.Given as goal

abbrev pub invariant-loop-i : goal.invariant-loop-i
invariant-loop-i l = hole_index l.order l.slot ≡ l.i + hole_index (drop l.i l.order) l.slot
