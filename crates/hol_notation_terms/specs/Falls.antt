-- Each part of a node has fewer nodes than the node.
use Rattle.std.specs.Prelude.{◌+◌, ◌≤◌, max, List, [], ◌∷◌}
use Rattle.std.proofs.Common.{arith}
use denote.Param.Weighed.{most}
use Rattle.hol_notation_terms.specs.declared.pre_type.PreTypeNode.{PreTypeNode}
use Rattle.hol_notation_terms.specs.declared.pre_type.PreTypeNode.TheVariants.{Ident as TypeIdent, Arrow as TypeArrow, Apply as TypeApply}
use Rattle.hol_notation_terms.specs.declared.pre_type.PreType.TheDeep.{deep-PreTypeNode}
use Rattle.hol_notation_terms.specs.declared.pre_term.PreTermNode.{PreTermNode}
use Rattle.hol_notation_terms.specs.declared.pre_term.PreTermNode.TheVariants.{Ident, Operator, Apply, Abstraction, Typed}
use Rattle.hol_notation_terms.specs.declared.pre_term.PreTerm.TheDeep.{deep-PreTermNode}
use Rattle.hol_notation_terms.specs.Text.{TypeText, type_texts, type_nodes, types_nodes, term_nodes}
use Rattle.hol_notation_terms.specs.TypeView.{type_of_node}
use Rattle.hol_notation_terms.specs.TermView.{term_of_node}

most_le_nodes : (ts : List TypeText) → most (λ t. type_nodes t + 1) ts ≤ types_nodes (type_texts ts) + 1
most_le_nodes [] = omega arith
most_le_nodes (t ∷ ts) = omega (arith, most_le_nodes ts)

pub deep_le_type_nodes : (n : PreTypeNode) → max (deep-PreTypeNode n) 0 ≤ type_nodes (type_of_node n)
deep_le_type_nodes (TypeIdent a) = omega arith
deep_le_type_nodes (TypeArrow s t) = omega arith
deep_le_type_nodes (TypeApply c ts) = omega (arith, most_le_nodes ts.items)

pub deep_le_term_nodes : (n : PreTermNode) → max (deep-PreTermNode n) 0 ≤ term_nodes (term_of_node n)
deep_le_term_nodes (Ident x) = omega arith
deep_le_term_nodes (Operator c) = omega arith
deep_le_term_nodes (Apply f a) = omega arith
deep_le_term_nodes (Abstraction v b) = omega arith
deep_le_term_nodes (Typed t ty) = omega arith
