use Rattle.std.proofs.Common.{rules}
use Rattle.hol_infer.proofs.Resolved.{text_falls}
use Rattle.hol_exec.proofs.reads.keys.+add_type.Goals as goal

pub add_type-requires-in-loop-argument : goal.add_type-requires-in-loop-argument
add_type-requires-in-loop-argument t c =
    let size = text_falls c.args.ty.now _ c.in-Apply.arguments.items c.deref-argument-items.result.now c.loop-argument.argument-index c.argument-item.result (rw c.in-Apply.is at c.node.ensures) c.deref-argument-items.ensures.value c.loop-argument-test.true c.argument-item.is in
    (search rules, tt)
