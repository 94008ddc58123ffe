-- Each part of a node has fewer nodes than the node.
use Rattle.std.specs.Prelude.{◌≤◌, max}
use Rattle.std.proofs.Common.{arith}
use Rattle.hol_terms.specs.declared.term.TermNode.{TermNode}
use Rattle.hol_terms.specs.declared.term.TermNode.TheVariants.{Var, Const, Comb, Abs}
use Rattle.hol_terms.specs.declared.term.TermShared.{TermShared}
use Rattle.hol_terms.specs.declared.term.Term.TheDeep.{deep-TermNode, deep-TermShared}
use Rattle.hol_terms.specs.Named.{term_nodes}
use Rattle.hol_terms.specs.View.{named_of}

deep_le_node : (n : TermNode) → max (deep-TermNode n) 0 ≤ term_nodes (named_of n)
deep_le_node (Var v) = omega arith
deep_le_node (Const c s) = omega arith
deep_le_node (Comb f x) = omega arith
deep_le_node (Abs v b) = omega arith

pub deep_le_nodes : (s : TermShared) → max (deep-TermShared s) 0 ≤ term_nodes (named_of s.node)
deep_le_nodes s = omega (arith, deep_le_node s.node)
