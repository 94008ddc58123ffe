use Rattle.std.proofs.Common.{◌≡◌, take, drop}
use Rattle.hol_typing.specs.Shape.{shape_list, shapes_holes}
use Rattle.hol_typing.specs.Holes.{add_holes, AreHolesOf}
use Rattle.hol_typing.proofs.shape.Shape.+add_holes.Given as goal

abbrev pub invariant-loop-part : goal.invariant-loop-part
invariant-loop-part l = add_holes l.initial.order.items (shapes_holes (shape_list l.part-items)) ≡ add_holes l.order.items (shapes_holes (shape_list (drop l.part-index l.part-items)))

abbrev pub invariant-loop-pair : goal.invariant-loop-pair
invariant-loop-pair l = AreHolesOf l.holes.items (take l.pair-index l.pair-items)
