use Rattle.std.proofs.Common.{◌≡◌, drop}
use Rattle.hol_types.specs.Tree.{type_list, type_size}
use Rattle.hol_typing.specs.Shape.{shapes_holes, instance_shapes}
use Rattle.hol_typing.specs.Holes.{add_holes}
use Rattle.hol_typing.proofs.shape.+add_type_holes.Given as goal

abbrev pub invariant-loop-arg : goal.invariant-loop-arg
invariant-loop-arg l =
    add_holes l.initial.order.items (shapes_holes (instance_shapes l.base l.names (type_list l.arg-items))) ≡ add_holes l.order.items (shapes_holes (instance_shapes l.base l.names (type_list (drop l.arg-index l.arg-items))))

abbrev pub decreases-add_type_holes : goal.decreases-add_type_holes
decreases-add_type_holes l = type_size l.ty.now
