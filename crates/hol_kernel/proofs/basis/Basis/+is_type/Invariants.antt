use Rattle.std.proofs.Common.{◌≡◌, drop}
use Rattle.hol_types.specs.Tree.{type_list, type_size}
use Rattle.hol_kernel.specs.Typing.{are_types}
use Rattle.hol_kernel.proofs.basis.Basis.+is_type.Given as goal

abbrev pub invariant-loop-arg : goal.invariant-loop-arg
invariant-loop-arg l = are_types l.self (type_list l.arg-items) ≡ are_types l.self (type_list (drop l.arg-index l.arg-items))

abbrev pub decreases-is_type : goal.decreases-is_type
decreases-is_type l = type_size l.ty.now
