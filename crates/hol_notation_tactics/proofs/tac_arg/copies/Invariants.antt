use Rattle.std.proofs.Common.{◌≡◌, take}
use Rattle.hol_notation_tactics.proofs.tac_arg.copies.Given as goal

abbrev pub invariant-loop-theorem : goal.invariant-loop-theorem
invariant-loop-theorem l = l.copied.items ≡ take l.theorem-index l.theorems
