use Rattle.std.proofs.Common.{◌≡◌, ◌++◌, drop}
use Rattle.hol_resolve.specs.ReadingView.{readings_value}
use Rattle.hol_resolve.specs.Written.{result_map, theorems_given}
use Rattle.hol_resolve.proofs.arguments.theorems_given.Given as goal

abbrev pub invariant-loop-theorem : goal.invariant-loop-theorem
invariant-loop-theorem l =
    theorems_given l.basis l.cited (readings_value l.readings) l.theorems
    ≡ result_map (λ ths. l.given.items ++ ths) (theorems_given l.basis l.cited (readings_value l.readings) (drop l.theorem-index l.theorems))
