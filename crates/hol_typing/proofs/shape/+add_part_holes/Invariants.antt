use Rattle.std.proofs.Common.{◌≡◌, ℕ, List, drop}
use Rattle.hol_types.specs.Tree.{type_list, type_size}
use Rattle.hol_typing.specs.Shape.{ShapeTree, shapes_holes, part_shapes}
use Rattle.hol_typing.specs.Holes.{add_holes, AreHolesOf}
use Rattle.hol_typing.proofs.shape.+add_part_holes.Given as goal

abbrev pub invariant-loop-arg : goal.invariant-loop-arg
invariant-loop-arg l = (shapes : List (ShapeTree × List ℕ)) → AreHolesOf l.bound shapes →
    add_holes l.initial.order.items (shapes_holes (part_shapes shapes l.base l.names (type_list l.arg-items))) ≡ add_holes l.order.items (shapes_holes (part_shapes shapes l.base l.names (type_list (drop l.arg-index l.arg-items))))

abbrev pub decreases-add_part_holes : goal.decreases-add_part_holes
decreases-add_part_holes l = type_size l.ty.now
