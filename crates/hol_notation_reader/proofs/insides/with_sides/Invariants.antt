use Rattle.std.proofs.Common.{◌≡◌, reverse, length}
use Rattle.hol_notation_reader.specs.Build.{with_sides}
use Rattle.hol_notation_reader.specs.View.{side_texts}
use Rattle.hol_notation_reader.proofs.insides.with_sides.Given as goal

abbrev pub invariant-loop-side : goal.invariant-loop-side
invariant-loop-side l = with_sides l.whole (reverse (side_texts l.left.items)) ≡ with_sides l.fn.term (reverse (side_texts l.fn.sides.items))

abbrev pub decreases-loop-side : goal.decreases-loop-side
decreases-loop-side l = length l.left.items
