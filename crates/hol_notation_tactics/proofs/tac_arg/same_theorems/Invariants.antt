use Rattle.std.proofs.Common.{◌≡◌, take, length}
use Rattle.hol_notation_tactics.proofs.tac_arg.same_theorems.Given as goal

abbrev pub invariant-loop-i : goal.invariant-loop-i
invariant-loop-i l = record {
  long : length l.theorems ≡ length l.others;
  same : take l.i l.theorems ≡ take l.i l.others;
}
