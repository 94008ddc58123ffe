use Rattle.std.proofs.Common.{◌≤◌, length, take, reverse}
use Rattle.hol_just.specs.Over.{AreOver, sequents}
use Rattle.hol_stack.proofs.Histories.{IsBack}
use Rattle.hol_stack.proofs.finishing.theorem.Given as goal

abbrev pub invariant-back : goal.invariant-back
invariant-back l = record {
  back : IsBack l.goal l.newest.basis (reverse (take l.left l.earlier)) (sequents l.thms.items);
  over : AreOver l.newest.basis l.thms.items;
  within : l.left ≤ length l.earlier;
}

abbrev pub decreases-back : goal.decreases-back
decreases-back l = l.left
