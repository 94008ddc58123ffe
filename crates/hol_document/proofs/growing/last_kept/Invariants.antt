use Rattle.std.proofs.Common.{◌≤◌, length}
use Rattle.hol_document.proofs.growing.last_kept.Given as goal

abbrev pub invariant-loop-at : goal.invariant-loop-at
invariant-loop-at l = l.at ≤ length l.slots

abbrev pub decreases-loop-at : goal.decreases-loop-at
decreases-loop-at l = l.at
