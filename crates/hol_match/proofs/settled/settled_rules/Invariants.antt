use Rattle.std.proofs.Common.{◌≤◌, length}
use Rattle.hol_match.proofs.Ground.{PlacesFrom}
use Rattle.hol_match.proofs.settled.settled_rules.Given as goal

abbrev pub invariant-rules : goal.invariant-rules
invariant-rules l = record {
  within : l.left ≤ length l.rules;
  places : PlacesFrom l.left l.rules l.places;
}

abbrev pub decreases-rules : goal.decreases-rules
decreases-rules l = l.left
