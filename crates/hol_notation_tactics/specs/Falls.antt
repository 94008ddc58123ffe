-- Each part of a node has fewer nodes than the node.
use Rattle.std.specs.Prelude.{◌+◌, ◌≤◌, max, List, [], ◌∷◌}
use Rattle.std.proofs.Common.{arith}
use denote.Param.Weighed.{most}
use Rattle.hol_notation_tactics.specs.declared.thm_expr.ThmExprNode.{ThmExprNode}
use Rattle.hol_notation_tactics.specs.declared.thm_expr.ThmExprNode.TheVariants.{Name, Assume as ThmAssume, Refl as ThmRefl, Spec as ThmSpec, Sym as ThmSym, Conjunct1 as ThmConjunct1, Conjunct2 as ThmConjunct2, Mp as ThmMp, InstType as ThmInstType}
use Rattle.hol_notation_tactics.specs.declared.thm_expr.ThmExpr.TheDeep.{deep-ThmExprNode}
use Rattle.hol_notation_tactics.specs.declared.tac_expr.TacExprNode.{TacExprNode}
use Rattle.hol_notation_tactics.specs.declared.tac_expr.TacExprNode.TheVariants.{Call as TheCall, Then as TheThen, ThenL as TheThenL, OrElse as TheOrElse, Repeat as TheRepeat, Try as TheTry, Changed as TheChanged, Every as TheEvery, First as TheFirst, Replicate as TheReplicate, DischThen as TheDischThen, PopAssum as ThePopAssum, FirstAssum as TheFirstAssum, SubgoalThen as TheSubgoalThen}
use Rattle.hol_notation_tactics.specs.declared.tac_expr.TacExpr.TheDeep.{deep-TacExprNode}
use Rattle.hol_notation_tactics.specs.Text.{TacText, tac_texts, thm_nodes, tac_nodes, tacs_nodes}
use Rattle.hol_notation_tactics.specs.ThmView.{thm_of_node}
use Rattle.hol_notation_tactics.specs.TacView.{tac_of_node}

most_le_nodes : (ts : List TacText) → most (λ t. tac_nodes t + 1) ts ≤ tacs_nodes (tac_texts ts) + 1
most_le_nodes [] = omega arith
most_le_nodes (t ∷ ts) = omega (arith, most_le_nodes ts)

pub deep_le_thm_nodes : (n : ThmExprNode) → max (deep-ThmExprNode n) 0 ≤ thm_nodes (thm_of_node n)
deep_le_thm_nodes (Name x) = omega arith
deep_le_thm_nodes (ThmAssume p) = omega arith
deep_le_thm_nodes (ThmRefl t) = omega arith
deep_le_thm_nodes (ThmSpec t th) = omega arith
deep_le_thm_nodes (ThmSym th) = omega arith
deep_le_thm_nodes (ThmConjunct1 th) = omega arith
deep_le_thm_nodes (ThmConjunct2 th) = omega arith
deep_le_thm_nodes (ThmMp a b) = omega arith
deep_le_thm_nodes (ThmInstType ps th) = omega arith

pub deep_le_tac_nodes : (n : TacExprNode) → max (deep-TacExprNode n) 0 ≤ tac_nodes (tac_of_node n)
deep_le_tac_nodes (TheCall c) = omega arith
deep_le_tac_nodes (TheThen t u) = omega arith
deep_le_tac_nodes (TheThenL t us) = omega (arith, most_le_nodes us.items)
deep_le_tac_nodes (TheOrElse t u) = omega arith
deep_le_tac_nodes (TheRepeat t) = omega arith
deep_le_tac_nodes (TheTry t) = omega arith
deep_le_tac_nodes (TheChanged t) = omega arith
deep_le_tac_nodes (TheEvery ts) = omega (arith, most_le_nodes ts.items)
deep_le_tac_nodes (TheFirst ts) = omega (arith, most_le_nodes ts.items)
deep_le_tac_nodes (TheReplicate n t) = omega arith
deep_le_tac_nodes (TheDischThen c) = omega arith
deep_le_tac_nodes (ThePopAssum c) = omega arith
deep_le_tac_nodes (TheFirstAssum c) = omega arith
deep_le_tac_nodes (TheSubgoalThen p c) = omega arith
