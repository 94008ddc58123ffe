use Rattle.std.proofs.Common.{◌∙◌, rules}
use Rattle.hol_typing.proofs.Types.{arg_falls}
use Rattle.hol_typing.proofs.Parts.{holes_step}
use Rattle.hol_typing.proofs.shape.+add_part_holes.Goals as goal

pub add_part_holes-requires : goal.add_part_holes-requires
add_part_holes-requires t c =
    let size = arg_falls c.args.ty.now _ c.in-App.args.items c.deref-arg-items.result.now c.loop-arg.arg-index c.arg-item.result (rw c.in-App.is at c.node.ensures) c.deref-arg-items.ensures.value c.loop-arg-test.true c.arg-item.is in
    (search rules, c.requires)

pub loop-arg-preserved : goal.loop-arg-preserved
loop-arg-preserved t c = λ shapes all.
    c.loop-arg.invariant shapes all
    ∙ holes_step shapes c.loop-arg.order.items c.args.base c.args.names.now c.deref-arg-items.result.now c.loop-arg.arg-index c.arg-item.result c.loop-arg-test.true c.arg-item.is
    ∙ (search rules)
