use Rattle.std.proofs.Common.{◌≡◌, reverse, length}
use Rattle.hol_notation_reader.specs.Build.{then_all}
use Rattle.hol_notation_reader.specs.View.{then_texts}
use Rattle.hol_notation_reader.proofs.tactics.then_all.Given as goal

abbrev pub invariant-loop-step : goal.invariant-loop-step
invariant-loop-step l = then_all l.whole (reverse (then_texts l.left.items)) ≡ then_all l.fn.tactic (reverse (then_texts l.fn.steps.items))

abbrev pub decreases-loop-step : goal.decreases-loop-step
decreases-loop-step l = length l.left.items
