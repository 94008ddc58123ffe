use Rattle.std.proofs.Common.{◌≡◌, ◌++◌, drop}
use Rattle.hol_notation_tactics.specs.Parts.{parts_of_theorems}
use Rattle.hol_notation_tactics.proofs.parts.add_theorems.Given as goal

abbrev pub invariant-loop-theorem : goal.invariant-loop-theorem
invariant-loop-theorem l = l.initial.parts.items ++ parts_of_theorems l.theorems ≡ l.parts.items ++ parts_of_theorems (drop l.theorem-index l.theorems)
