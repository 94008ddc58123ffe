use Rattle.std.proofs.Common.{◌≤◌}
use Rattle.hol_combine.specs.ExprValue.{expr_nodes}
use Rattle.hol_combine.proofs.expr.Expr.+expr.Given as goal

abbrev pub decreases-drop : goal.decreases-drop
decreases-drop l = goal.size-drop l

abbrev pub invariant-loop-part : goal.invariant-loop-part
invariant-loop-part l = expr_nodes l.self ≤ expr_nodes l.fn.self
