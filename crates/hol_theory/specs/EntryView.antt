-- The entry that the program's value stands for.
use Rattle.hol_theory.specs.declared.value.ValueNode.{ValueNode}
use Rattle.hol_theory.specs.declared.value.ValueNode.TheVariants as node
use Rattle.hol_theory.specs.Entry.{EntryValue, AType, AConstant, ATheorem, ATac}

abbrev pub entry_of_node : ValueNode → EntryValue
entry_of_node (node.Type arity item basis) = AType arity item basis
entry_of_node (node.Constant ty item basis) = AConstant ty item basis
entry_of_node (node.Theorem th) = ATheorem th
entry_of_node (node.Tac e bases basis) = ATac e bases.items basis
