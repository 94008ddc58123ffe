use Rattle.std.proofs.Common.{◌≡◌}
use Rattle.hol_typing.proofs.Parts.{LooksFrom}
use Rattle.hol_typing.proofs.shape.add_variable_holes.Given as goal

abbrev pub invariant-loop-pair : goal.invariant-loop-pair
invariant-loop-pair l = record {
  looks : LooksFrom l.bound l.name l.pair-index;
  same : l.order.items ≡ l.initial.order.items;
}
