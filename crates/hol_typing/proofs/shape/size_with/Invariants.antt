use Rattle.std.proofs.Common.{◌≡◌, ◌+◌, ◌≤◌, min, drop}
use Rattle.hol_typing.specs.Shape.{shape_list, shapes_size}
use Rattle.hol_typing.proofs.shape.size_with.Given as goal

abbrev pub invariant-loop-part : goal.invariant-loop-part
invariant-loop-part l = (l.size ≤ 20001) × (min (l.size + shapes_size (shape_list (drop l.part-index l.parts))) 20001 ≡ min (1 + shapes_size (shape_list l.parts)) 20001)
