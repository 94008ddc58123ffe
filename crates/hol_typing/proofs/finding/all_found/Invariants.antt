use Rattle.std.proofs.Common.{◌≡◌, ℕ, ◌<◌, length, Some}
use Rattle.hol_typing.specs.Found.{found_at, shape_at}
use Rattle.hol_typing.proofs.finding.all_found.Given as goal

abbrev pub invariant-loop-shape : goal.invariant-loop-shape
invariant-loop-shape l = record {
  len : length l.shapes.items ≡ l.shape-index;
  all : (i : ℕ) → i < l.shape-index → found_at l.found i ≡ Some (shape_at l.shapes.items i);
}
