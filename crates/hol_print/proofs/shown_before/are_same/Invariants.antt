use Rattle.std.proofs.Common.{◌≡◌, take}
use Rattle.hol_print.proofs.shown_before.are_same.Given as goal

abbrev pub invariant-loop-i : goal.invariant-loop-i
invariant-loop-i l = take l.i l.terms ≡ take l.i l.others
