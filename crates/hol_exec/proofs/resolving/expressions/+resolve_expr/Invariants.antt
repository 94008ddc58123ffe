use Rattle.std.proofs.Common.{◌≡◌, ◌+◌, ◌*◌, drop}
use Rattle.hol_notation_tactics.specs.Text.{tac_texts, tac_nodes, tacs_nodes}
use Rattle.hol_exec.specs.Expr.{mapped, resolved_exprs}
use Rattle.hol_exec.specs.ContextView.{context_value}
use Rattle.hol_exec.proofs.Parts.{before}
use Rattle.hol_exec.proofs.resolving.expressions.+resolve_expr.Given as goal

abbrev pub decreases-resolve_expr : goal.decreases-resolve_expr
decreases-resolve_expr g l = 4 * tac_nodes l.tactic.now

abbrev pub decreases-resolve_each : goal.decreases-resolve_each
decreases-resolve_each g l = 4 * tacs_nodes (tac_texts l.tactics.now) + 2

abbrev pub decreases-resolve_then_each : goal.decreases-resolve_then_each
decreases-resolve_then_each g l = 4 * (tac_nodes l.first.now + tacs_nodes (tac_texts l.parts.now)) + 3

abbrev pub decreases-resolve_then : goal.decreases-resolve_then
decreases-resolve_then g l = 4 * (tac_nodes l.first.now + tac_nodes l.second.now) + 3

abbrev pub decreases-push_then : goal.decreases-push_then
decreases-push_then g l = 4 * tac_nodes l.tactic.now + 2

abbrev pub decreases-resolve_or_else : goal.decreases-resolve_or_else
decreases-resolve_or_else g l = 4 * (tac_nodes l.first.now + tac_nodes l.second.now) + 3

abbrev pub decreases-push_or_else : goal.decreases-push_or_else
decreases-push_or_else g l = 4 * tac_nodes l.tactic.now + 2

abbrev pub invariant-resolve_each-loop-tactic : goal.invariant-resolve_each-loop-tactic
invariant-resolve_each-loop-tactic g l =
    resolved_exprs (context_value (g.N.LooksUp.table_of l.names) l.context) (tac_texts l.tactics) ≡ mapped (before l.parts.items) (resolved_exprs (context_value (g.N.LooksUp.table_of l.names) l.context) (tac_texts (drop l.tactic-index l.tactics)))
