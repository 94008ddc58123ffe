use Rattle.std.proofs.Common.{◌≤◌, length}
use Rattle.hol_resolve.proofs.attempts.place_of_like.Given as goal

abbrev pub invariant-newest : goal.invariant-newest
invariant-newest l = l.at ≤ length l.before

abbrev pub decreases-newest : goal.decreases-newest
decreases-newest l = l.at
