use Rattle.std.proofs.Common.{◌≡◌, ◌++◌, drop}
use Rattle.hol_notation_terms.specs.Text.{type_texts, type_nodes}
use Rattle.hol_exec.specs.Keys.{keys_of_types}
use Rattle.hol_exec.proofs.reads.keys.+add_type.Given as goal

abbrev pub decreases-add_type : goal.decreases-add_type
decreases-add_type l = type_nodes l.ty.now

abbrev pub invariant-loop-argument : goal.invariant-loop-argument
invariant-loop-argument l =
    l.initial.keys.items ++ keys_of_types (type_texts l.argument-items) ≡ l.keys.items ++ keys_of_types (type_texts (drop l.argument-index l.argument-items))
