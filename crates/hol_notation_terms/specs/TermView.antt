-- The term that a node stands for: what contracts see of it.
use Rattle.std.specs.Prelude.{string_bytes}
use Rattle.hol_notation_terms.specs.declared.pre_term.PreTermNode.{PreTermNode}
use Rattle.hol_notation_terms.specs.declared.pre_term.PreTermNode.TheVariants.{Ident as TheIdent, Operator as TheOperator, Apply as TheApply, Abstraction as TheAbstraction, Typed as TheTyped}
use Rattle.hol_notation_terms.specs.Text.{TermText, Named, Constant, Applied, Abstraction, Typed}

abbrev pub term_of_node : PreTermNode → TermText
term_of_node (TheIdent name) = Named (string_bytes name)
term_of_node (TheOperator c) = Constant c
term_of_node (TheApply f a) = Applied f a
term_of_node (TheAbstraction v b) = Abstraction v b
term_of_node (TheTyped t ty) = Typed t ty
