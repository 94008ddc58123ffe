use Rattle.std.proofs.Common.{◌≡◌, drop}
use Rattle.hol_types.specs.Tree.{type_list}
use Rattle.hol_types.specs.Basic.{are_basic}
use Rattle.hol_types.proofs.ty.TyNode.is_basic.Given as goal

abbrev pub invariant-loop-arg : goal.invariant-loop-arg
invariant-loop-arg l = are_basic (type_list l.arg-items) ≡ are_basic (type_list (drop l.arg-index l.arg-items))
