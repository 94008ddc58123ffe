use Rattle.std.proofs.Common.{sym, subst, List, ℕ, arith, length}
use Rattle.hol_types.specs.Names.{tyvars}
use Rattle.hol_typing.specs.Shape.{ShapeTree, shape_size, part_shape, AreWithin}
use Rattle.hol_typing.specs.Graph.{bound_names}
use Rattle.hol_typing.proofs.Numbers.{instance_fits}
use Rattle.hol_typing.proofs.Parts.{bound_within}
use Rattle.hol_typing.proofs.finding.part_shape_of.Goals as goal

pub part-requires-clause-numbers : goal.part-requires-clause-numbers
part-requires-clause-numbers c =
    let fits = instance_fits c.args.numbering c.args.slot (length (tyvars c.args.part.now.ty)) c.requires.numbered c.requires.counted in
    let is = c.base.ensures in
    let small = c.requires.fits in
    omega (arith, fits, is, small)

pub part-requires-clause-within : goal.part-requires-clause-within
part-requires-clause-within c =
    let found = rw c.in-Some.is at c.in_ok-bound.ensures in
    subst (λ (bound : List (ShapeTree × List ℕ)). AreWithin (shape_size (part_shape bound c.base.result (tyvars c.args.part.now.ty) c.args.part.now.ty)) bound) (sym found.1)
    (bound_within c.args.found.now c.args.part.now.ty c.args.part.now.base (bound_names c.args.part.now) c.base.result (tyvars c.args.part.now.ty) c.requires.part_in.distinct c.requires.part_in.applied)
