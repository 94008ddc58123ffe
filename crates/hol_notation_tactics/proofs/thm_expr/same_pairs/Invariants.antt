use Rattle.std.proofs.Common.{◌≡◌, take, length}
use Rattle.hol_notation_tactics.proofs.thm_expr.same_pairs.Given as goal

abbrev pub invariant-loop-i : goal.invariant-loop-i
invariant-loop-i l = record {
  long : length l.pairs ≡ length l.others;
  same : take l.i l.pairs ≡ take l.i l.others;
}
