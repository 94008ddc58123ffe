use Rattle.std.proofs.Common.{◌≡◌, take, length, ◌+◌, ◌*◌}
use Rattle.hol_notation_tactics.specs.Text.{tac_texts, tac_nodes, tacs_nodes}
use Rattle.hol_notation_tactics.proofs.tac_expr.+same.Given as goal

abbrev pub decreases-TacExpr::same : goal.decreases-TacExpr::same
decreases-TacExpr::same l = 2 * tac_nodes l.self.now

abbrev pub decreases-same_tactics : goal.decreases-same_tactics
decreases-same_tactics l = 2 * tacs_nodes (tac_texts l.tactics.now) + 1

abbrev pub invariant-same_tactics-loop-i : goal.invariant-same_tactics-loop-i
invariant-same_tactics-loop-i l = record {
  long : length l.tactics ≡ length l.others;
  same : take l.i l.tactics ≡ take l.i l.others;
}
