use Rattle.std.proofs.Common.{◌≡◌, ℕ, ◌<◌, ◌+◌, ◌*◌, get_or}
use Rattle.hol_combine.specs.ExprValue.{ExprValue, exprs, expr_nodes, exprs_nodes}
use Rattle.hol_theory.proofs.same_expr.+same_expr.Given as goal

abbrev pub decreases-same_expr : goal.decreases-same_expr
decreases-same_expr l = 2 * expr_nodes l.left.now

abbrev pub decreases-same_exprs : goal.decreases-same_exprs
decreases-same_exprs l = 2 * exprs_nodes (exprs l.left.now) + 1

abbrev pub invariant-same_exprs-loop-i : goal.invariant-same_exprs-loop-i
invariant-same_exprs-loop-i l = (k : ℕ) (d : ExprValue) → k < l.i → get_or l.left k d ≡ get_or l.right k d
