-- The argument of a TAC that a node stands for: what contracts see of it.
use Rattle.hol_notation_tactics.specs.declared.tac_arg.TacArgNode.{TacArgNode}
use Rattle.hol_notation_tactics.specs.declared.tac_arg.TacArgNode.TheVariants.{Term as TheTerm, Theorem as TheTheorem, Pair as ThePair, Theorems as TheTheorems}
use Rattle.hol_notation_tactics.specs.Text.{ArgumentText, Term, Theorem, Pair, Theorems}

abbrev pub argument_of_node : TacArgNode → ArgumentText
argument_of_node (TheTerm t) = Term t
argument_of_node (TheTheorem th) = Theorem th
argument_of_node (ThePair t x) = Pair t x
argument_of_node (TheTheorems ths) = Theorems ths.items
