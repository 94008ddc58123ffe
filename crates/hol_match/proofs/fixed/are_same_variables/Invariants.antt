use Rattle.std.proofs.Common.{◌≡◌, drop}
use Rattle.hol_match.proofs.fixed.are_same_variables.Given as goal

abbrev pub invariant-loop-i : goal.invariant-loop-i
invariant-loop-i l = drop l.i l.variables ≡ drop l.i l.others → l.variables ≡ l.others
