-- The named term that a node stands for: what contracts see of it.
use Rattle.hol_terms.specs.declared.term.TermNode.{TermNode}
use Rattle.hol_terms.specs.declared.term.TermNode.TheVariants.{Var, Const, Comb, Abs}
use Rattle.hol_terms.specs.Named.{Named, var, constant, comb, abs}

abbrev pub named_of : TermNode → Named
named_of (Var v) = var v
named_of (Const c s) = constant c s
named_of (Comb f x) = comb f x
named_of (Abs v b) = abs v b
