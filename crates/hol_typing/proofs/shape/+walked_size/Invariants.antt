use Rattle.std.proofs.Common.{◌≡◌, ℕ, ◌+◌, ◌≤◌, List, min, drop}
use Rattle.hol_types.specs.Tree.{type_list, type_size}
use Rattle.hol_typing.specs.Shape.{shapes_size, part_shapes}
use Rattle.hol_typing.proofs.shape.+walked_size.Given as goal

abbrev pub invariant-loop-arg : goal.invariant-loop-arg
invariant-loop-arg l = record {
  small : l.size ≤ 20001;
  so_far : (base : ℕ) (names : List (List ℕ)) → min (l.size + shapes_size (part_shapes l.bound base names (type_list (drop l.arg-index l.arg-items)))) 20001 ≡ min (1 + shapes_size (part_shapes l.bound base names (type_list l.arg-items))) 20001;
}

abbrev pub decreases-walked_size : goal.decreases-walked_size
decreases-walked_size l = type_size l.ty.now
