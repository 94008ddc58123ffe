use Rattle.std.proofs.Common.{◌≡◌, ◌+◌, ◌≤◌, min, drop}
use Rattle.hol_types.specs.Tree.{type_list, types_size}
use Rattle.hol_types.proofs.ty.TyNode.size.Given as goal

abbrev pub invariant-loop-arg : goal.invariant-loop-arg
invariant-loop-arg l = (l.count ≤ 20001) × (min (l.count + types_size (type_list (drop l.arg-index l.arg-items))) 20001 ≡ min (1 + types_size (type_list l.arg-items)) 20001)
