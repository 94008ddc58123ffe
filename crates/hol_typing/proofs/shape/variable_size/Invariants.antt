use Rattle.std.proofs.Common.{◌≡◌, drop}
use Rattle.hol_typing.specs.Shape.{shape_lookup}
use Rattle.hol_typing.proofs.shape.variable_size.Given as goal

abbrev pub invariant-loop-pair : goal.invariant-loop-pair
invariant-loop-pair l = shape_lookup l.bound l.name ≡ shape_lookup (drop l.pair-index l.bound) l.name
