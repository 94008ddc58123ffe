use Rattle.std.proofs.Common.{◌≡◌, ◌≤◌, ◌++◌, drop, length, Some}
use Rattle.hol_just.specs.Gives.{gives}
use Rattle.hol_just.specs.Over.{sequents}
use Rattle.hol_just.proofs.justifying.justify.Given as goal

abbrev pub invariant-moves : goal.invariant-moves
invariant-moves l = record {
  so_far : gives l.basis (drop l.left l.just) (sequents l.fn.thms.items) ≡ Some (l.cursor.before ++ l.cursor.after);
  over : l.cursor.basis ≡ l.basis;
  moves : l.moves ≡ l.just;
  within : l.left ≤ length l.just;
}

abbrev pub decreases-moves : goal.decreases-moves
decreases-moves l = l.left
