-- The shape that a node stands for: what contracts see of it.
use Rattle.std.specs.Prelude.{◌+◌, ◌<◌, ◌^◌, length}
use Rattle.hol_types.specs.Names.{tyvars}
use Rattle.hol_typing.specs.declared.shape.ShapeNode.{ShapeNode}
use Rattle.hol_typing.specs.declared.shape.ShapeNode.TheVariants.{Open, Rigid, App, Instance, Part}
use Rattle.hol_typing.specs.Shape.{ShapeTree, Hole, Fixed, Built, shape_list, shape_size, instance_shape, part_shape, AreWithin}

abbrev pub shape_of : ShapeNode → ShapeTree
shape_of (Open k) = Hole k
shape_of (Rigid a) = Fixed a
shape_of (App c parts) = Built c (shape_list parts.items)
shape_of (Instance ty base) = instance_shape base (tyvars ty) ty
shape_of (Part ty bound base) = part_shape bound.items base (tyvars ty) ty

-- the numbers of the open slots of a generic type's variables; and that what is put for others is smaller than the whole
abbrev pub HasNumbers : ShapeNode → Type 0
HasNumbers (Open k) = Unit {0}
HasNumbers (Rigid a) = Unit {0}
HasNumbers (App c parts) = Unit {0}
HasNumbers (Instance ty base) = base + length (tyvars ty) < 2 ^ 64
HasNumbers (Part ty bound base) = (base + length (tyvars ty) < 2 ^ 64) × AreWithin (shape_size (part_shape bound.items base (tyvars ty) ty)) bound.items
