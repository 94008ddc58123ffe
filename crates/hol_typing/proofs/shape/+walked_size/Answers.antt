use Rattle.std.proofs.Common.{arith, rules}
use Rattle.hol_typing.proofs.Types.{arg_falls}
use Rattle.hol_typing.proofs.Parts.{size_step}
use Rattle.hol_typing.proofs.shape.+walked_size.Goals as goal

pub walked_size-requires : goal.walked_size-requires
walked_size-requires t c =
    let size = arg_falls c.args.ty.now _ c.in-App.args.items c.deref-arg-items.result.now c.loop-arg.arg-index c.arg-item.result (rw c.in-App.is at c.node.ensures) c.deref-arg-items.ensures.value c.loop-arg-test.true c.arg-item.is in
    search rules

pub loop-arg-preserved : goal.loop-arg-preserved
loop-arg-preserved t c = record {
  small = omega arith;
  so_far = λ base names.
      let before = c.loop-arg.invariant.so_far base names in
      let here = size_step c.args.bound.now base names c.deref-arg-items.result.now c.loop-arg.arg-index c.arg-item.result c.loop-arg-test.true c.arg-item.is in
      let part = c.walked_size.ensures.size base names in
      omega (arith, before, here, part);
}
