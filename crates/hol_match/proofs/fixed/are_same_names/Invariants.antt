use Rattle.std.proofs.Common.{◌≡◌, drop}
use Rattle.hol_match.proofs.fixed.are_same_names.Given as goal

abbrev pub invariant-loop-i : goal.invariant-loop-i
invariant-loop-i l = drop l.i l.names ≡ drop l.i l.others → l.names ≡ l.others
