use Rattle.std.proofs.Common.{rules}
use Rattle.hol_typing.proofs.Types.{arg_falls}
use Rattle.hol_typing.proofs.scheme.+add_occurrences.Goals as goal

pub add_occurrences-requires : goal.add_occurrences-requires
add_occurrences-requires t c =
    let size = arg_falls c.args.ty.now _ c.in-App.args.items c.deref-arg-items.result.now c.loop-arg.arg-index c.arg-item.result (rw c.in-App.is at c.node.ensures) c.deref-arg-items.ensures.value c.loop-arg-test.true c.arg-item.is in
    search rules
