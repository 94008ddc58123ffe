use Rattle.std.proofs.Common.{◌≡◌, take, length}
use Rattle.hol_notation_terms.proofs.definition.same_variables.Given as goal

abbrev pub invariant-loop-i : goal.invariant-loop-i
invariant-loop-i l = record {
  long : length l.variables ≡ length l.others;
  same : take l.i l.variables ≡ take l.i l.others;
}
