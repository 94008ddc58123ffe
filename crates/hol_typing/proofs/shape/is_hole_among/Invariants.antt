use Rattle.std.proofs.Common.{◌≡◌, drop}
use Rattle.hol_typing.specs.Holes.{is_hole_among}
use Rattle.hol_typing.proofs.shape.is_hole_among.Given as goal

abbrev pub invariant-loop-other : goal.invariant-loop-other
invariant-loop-other l = is_hole_among l.order l.slot ≡ is_hole_among (drop l.other-index l.order) l.slot
