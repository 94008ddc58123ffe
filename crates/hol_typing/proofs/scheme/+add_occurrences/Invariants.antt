use Rattle.std.proofs.Common.{◌≡◌, ◌++◌, drop}
use Rattle.hol_types.specs.Tree.{type_list, type_size}
use Rattle.hol_types.specs.Names.{types_names}
use Rattle.hol_typing.proofs.scheme.+add_occurrences.Given as goal

abbrev pub invariant-loop-arg : goal.invariant-loop-arg
invariant-loop-arg l = l.initial.names.items ++ types_names (type_list l.arg-items) ≡ l.names.items ++ types_names (type_list (drop l.arg-index l.arg-items))

abbrev pub decreases-add_occurrences : goal.decreases-add_occurrences
decreases-add_occurrences l = type_size l.ty.now
