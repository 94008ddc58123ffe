use Rattle.std.proofs.Common.{rules}
use Rattle.hol_typing.proofs.Types.{arg_falls}
use Rattle.hol_typing.proofs.shape.+add_type_holes.Goals as goal

pub add_type_holes-requires : goal.add_type_holes-requires
add_type_holes-requires t c =
    let size = arg_falls c.args.ty.now _ c.in-App.args.items c.deref-arg-items.result.now c.loop-arg.arg-index c.arg-item.result (rw c.in-App.is at c.node.ensures) c.deref-arg-items.ensures.value c.loop-arg-test.true c.arg-item.is in
    (search rules, c.requires)
