-- The type that a node stands for: what contracts see of it.
use Rattle.std.specs.Prelude.{string_bytes}
use Rattle.hol_notation_terms.specs.declared.pre_type.PreTypeNode.{PreTypeNode}
use Rattle.hol_notation_terms.specs.declared.pre_type.PreTypeNode.TheVariants.{Ident as TheIdent, Arrow as TheArrow, Apply as TheApply}
use Rattle.hol_notation_terms.specs.Text.{TypeText, Ident, Arrow, Apply, type_texts}

abbrev pub type_of_node : PreTypeNode → TypeText
type_of_node (TheIdent name) = Ident (string_bytes name)
type_of_node (TheArrow from to) = Arrow from to
type_of_node (TheApply name arguments) = Apply (string_bytes name) (type_texts arguments.items)
