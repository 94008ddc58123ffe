use Rattle.std.proofs.Common.{◌≡◌, map, take}
use Rattle.hol_typing.specs.Shape.{fill, fill_pairs}
use Rattle.hol_typing.specs.Holes.{open_type}
use Rattle.hol_typing.proofs.shape.Shape.+ty.Given as goal

abbrev pub invariant-loop-part : goal.invariant-loop-part
invariant-loop-part l = l.args.items ≡ map (fill (open_type l.order)) (take l.part-index l.part-items)

abbrev pub invariant-loop-pair : goal.invariant-loop-pair
invariant-loop-pair l = l.pairs.items ≡ fill_pairs (open_type l.order) (take l.pair-index l.pair-items)
