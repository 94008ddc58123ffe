-- Each part of a node has fewer nodes than the node.
use Rattle.std.specs.Prelude.{◌≡◌, ◌+◌, ◌≤◌, ℕ, zero, suc, max, List, [], ◌∷◌}
use Rattle.std.proofs.Common.{arith}
use denote.Param.Weighed.{most}
use Rattle.hol_combine.specs.declared.expr.ExprNode.{ExprNode}
use Rattle.hol_combine.specs.declared.expr.ExprNode.TheVariants as node
use Rattle.hol_combine.specs.declared.expr.Expr.TheDeep.{deep-ExprNode}
use Rattle.hol_combine.specs.ExprValue.{ExprValue, Then, OrElse, exprs, then_all, or_else_all, used_through, expr_nodes, exprs_nodes}
use Rattle.hol_combine.specs.ExprView.{expr_of_node}

most_le_nodes : (ts : List ExprValue) → most (λ t. expr_nodes t + 1) ts ≤ exprs_nodes (exprs ts) + 1
most_le_nodes [] = omega arith
most_le_nodes (t ∷ ts) = omega (arith, most_le_nodes ts)

then_first : (t : ExprValue) (us : List ExprValue) → expr_nodes t ≤ expr_nodes (then_all t us)
then_first t [] = omega arith
then_first t (u ∷ us) = omega (arith, then_first (Then t u) us)

then_more : (t : ExprValue) (us : List ExprValue) → most (λ u. expr_nodes u + 1) us ≤ expr_nodes (then_all t us)
then_more t [] = omega arith
then_more t (u ∷ us) =
    let here : 1 + expr_nodes t + expr_nodes u ≤ expr_nodes (then_all (Then t u) us) = then_first (Then t u) us in
    omega (arith, here, then_more (Then t u) us)

or_first : (t : ExprValue) (us : List ExprValue) → expr_nodes t ≤ expr_nodes (or_else_all t us)
or_first t [] = omega arith
or_first t (u ∷ us) = omega arith

or_more : (t : ExprValue) (us : List ExprValue) → most (λ u. expr_nodes u + 1) us ≤ expr_nodes (or_else_all t us)
or_more t [] = omega arith
or_more t (u ∷ us) = omega (arith, or_first u us, or_more u us)

then_deep : (t u : ExprValue) (us : List ExprValue) → max (max (expr_nodes t + 1) (max (expr_nodes u + 1) (max (most (λ y. expr_nodes y + 1) us) 0))) 0 ≤ expr_nodes (then_all (Then t u) us)
then_deep t u us =
    let here : 1 + expr_nodes t + expr_nodes u ≤ expr_nodes (then_all (Then t u) us) = then_first (Then t u) us in
    omega (arith, here, then_more (Then t u) us)

or_deep : (t u : ExprValue) (us : List ExprValue) → max (max (expr_nodes t + 1) (max (expr_nodes u + 1) (max (most (λ y. expr_nodes y + 1) us) 0))) 0 ≤ expr_nodes (OrElse t (or_else_all u us))
or_deep t u us = omega (arith, or_first u us, or_more u us)

used_deep : (n : ℕ) (t : ExprValue) → expr_nodes t ≤ expr_nodes (used_through n t)
used_deep zero t = omega arith
used_deep (suc n) t = omega (arith, used_deep n t)

pub deep_le_nodes : (n : ExprNode) → max (deep-ExprNode n) 0 ≤ expr_nodes (expr_of_node n)
deep_le_nodes (node.Call call) = omega arith
deep_le_nodes (node.Then t u us) = then_deep t u us.items
deep_le_nodes (node.ThenL t us) = omega (arith, most_le_nodes us.items)
deep_le_nodes (node.OrElse t u us) = or_deep t u us.items
deep_le_nodes (node.Try t) = omega arith
deep_le_nodes (node.Repeat t) = omega arith
deep_le_nodes (node.Every ts) = omega (arith, most_le_nodes ts.items)
deep_le_nodes (node.First ts) = omega (arith, most_le_nodes ts.items)
deep_le_nodes (node.Replicate n t) = omega arith
deep_le_nodes (node.Changed t) = omega arith
deep_le_nodes (node.Hand how called) = omega arith
deep_le_nodes (node.Defined more t) = omega (arith, used_deep more t)
