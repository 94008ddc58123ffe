use Rattle.std.proofs.Common.{◌≤◌, ◌-◌, length, take}
use Rattle.hol_print.specs.InOrder.{IsAfter}
use Rattle.hol_print.proofs.free_variables.count_below.Given as goal

abbrev pub invariant-halves : goal.invariant-halves
invariant-halves l =
    record {
      within : l.low ≤ l.high;
      long : l.high ≤ length l.among;
      below : IsAfter l.v (take l.low l.among);
    }

abbrev pub decreases-halves : goal.decreases-halves
decreases-halves l = l.high - l.low
