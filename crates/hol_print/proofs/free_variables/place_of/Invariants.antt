use Rattle.std.proofs.Common.{◌≡◌, ◌++◌, ◌-◌, take, drop, length}
use Rattle.hol_print.specs.ShowGoal.{put_new}
use Rattle.hol_print.proofs.free_variables.place_of.Given as goal

abbrev pub invariant-places : goal.invariant-places
invariant-places l = put_new l.v l.among ≡ take l.at l.among ++ put_new l.v (drop l.at l.among)

abbrev pub decreases-places : goal.decreases-places
decreases-places l = length l.among - l.at
