use Rattle.std.proofs.Common.{◌≡◌, ◌++◌, drop, map}
use Rattle.hol_resolve.specs.ReadingView.{readings_value}
use Rattle.hol_exec.specs.OwnBases.{own_basis}
use Rattle.hol_exec.proofs.resolving.theorem_bases.add_theorems.Given as goal

abbrev pub invariant-loop-theorem : goal.invariant-loop-theorem
invariant-loop-theorem l =
    l.initial.bases.items ++ map (own_basis l.reads.cited (readings_value l.readings)) l.theorems
    ≡ l.bases.items ++ map (own_basis l.reads.cited (readings_value l.readings)) (drop l.theorem-index l.theorems)
