use Rattle.std.proofs.Common.{◌≡◌, drop}
use Rattle.std.specs.Int.RustNames.{bit_or}
use Rattle.hol_types.specs.Tree.{type_list}
use Rattle.hol_types.specs.Filter.{types_filter}
use Rattle.hol_types.proofs.ty.TyNode.filter.Given as goal

abbrev pub invariant-loop-arg : goal.invariant-loop-arg
invariant-loop-arg l = bit_or l.filter.bits (types_filter (type_list (drop l.arg-index l.arg-items))) ≡ types_filter (type_list l.arg-items)
