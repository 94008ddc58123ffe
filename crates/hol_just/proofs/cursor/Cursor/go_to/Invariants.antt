use Rattle.std.proofs.Common.{◌≤◌, ◌-◌, length}
use Rattle.hol_just.specs.Over.{IsSameCut}
use Rattle.hol_just.proofs.cursor.Cursor.go_to.Given as goal

abbrev pub invariant-back : goal.invariant-back
invariant-back l = IsSameCut l.fn.self l.self

abbrev pub decreases-back : goal.decreases-back
decreases-back l = length l.self.before

abbrev pub invariant-forward : goal.invariant-forward
invariant-forward l = record {
  same : IsSameCut l.fn.self l.self;
  below : length l.self.before ≤ l.place;
}

abbrev pub decreases-forward : goal.decreases-forward
decreases-forward l = l.place - length l.self.before
