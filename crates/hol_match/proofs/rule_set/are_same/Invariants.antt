use Rattle.std.proofs.Common.{◌≡◌, drop}
use Rattle.hol_match.proofs.rule_set.are_same.Given as goal

abbrev pub invariant-loop-i : goal.invariant-loop-i
invariant-loop-i l = drop l.i l.terms ≡ drop l.i l.others → l.terms ≡ l.others
