use Rattle.std.proofs.Common.{◌≡◌, drop}
use Rattle.hol_prelude.specs.Prelude.{theorem_in}
use Rattle.hol_prelude.proofs.prelude.find.Given as goal

abbrev pub invariant-loop-entry : goal.invariant-loop-entry
invariant-loop-entry l = theorem_in l.theorems l.name ≡ theorem_in (drop l.entry-index l.theorems) l.name
