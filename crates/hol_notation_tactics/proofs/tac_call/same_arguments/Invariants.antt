use Rattle.std.proofs.Common.{◌≡◌, take, length}
use Rattle.hol_notation_tactics.proofs.tac_call.same_arguments.Given as goal

abbrev pub invariant-loop-i : goal.invariant-loop-i
invariant-loop-i l = record {
  long : length l.arguments ≡ length l.others;
  same : take l.i l.arguments ≡ take l.i l.others;
}
