use Rattle.std.proofs.Common.{◌≡◌, drop}
use Rattle.hol_types.specs.Tree.{type_list, type_size}
use Rattle.hol_types.specs.Names.{is_among, types_names}
use Rattle.hol_typing.proofs.expanding.+has_variable.Given as goal

abbrev pub invariant-loop-arg : goal.invariant-loop-arg
invariant-loop-arg l = is_among (types_names (type_list l.arg-items)) l.name ≡ is_among (types_names (type_list (drop l.arg-index l.arg-items))) l.name

abbrev pub decreases-has_variable : goal.decreases-has_variable
decreases-has_variable l = type_size l.ty.now
