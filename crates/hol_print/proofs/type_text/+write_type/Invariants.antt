use Rattle.std.proofs.Common.{◌≡◌, ◌+◌, ◌*◌, ◌++◌, drop, string_bytes}
use Rattle.hol_types.specs.Tree.{type_list, type_size, types_size}
use Rattle.hol_print.specs.ShowType.{show_others}
use Rattle.hol_print.proofs.type_text.+write_type.Given as goal

abbrev pub decreases-write_type : goal.decreases-write_type
decreases-write_type l = 3 * type_size l.ty.now

abbrev pub decreases-write_operand : goal.decreases-write_operand
decreases-write_operand l = 3 * type_size l.ty.now + 1

abbrev pub decreases-write_arguments : goal.decreases-write_arguments
decreases-write_arguments l = 3 * types_size (type_list l.args.now) + 2

abbrev pub decreases-write_others : goal.decreases-write_others
decreases-write_others l = 3 * types_size (type_list l.others.now) + 1

abbrev pub invariant-write_others-loop-other : goal.invariant-write_others-loop-other
invariant-write_others-loop-other l = string_bytes l.text ++ show_others (type_list (drop l.other-index l.others)) ≡ string_bytes l.fn.text ++ show_others (type_list l.others)
