use Rattle.hol_typing.proofs.Linear.{linear_step}
use Rattle.hol_typing.proofs.Splitting.{parts_step}
use Rattle.hol_typing.proofs.generate.Graph.generic_slots.Goals as goal

pub of-requires : goal.of-requires
of-requires c = λ e. (linear_step c.args.types.now c.loop-ty.ty-index c.ty-item.result c.loop-ty-test.true c.ty-item.is (c.loop-ty.invariant.linear e)).0

pub loop-ty-preserved : goal.loop-ty-preserved
loop-ty-preserved c = record {
  builds = parts_step c.args.self.now c.loop-ty.self c.fresh.new.self c.loop-ty.parts.items c.push.new.self.items c.args.types.now c.loop-ty.ty-index c.in_ok-part.part c.ty-item.result _
      c.loop-ty-test.true c.ty-item.is c.in_ok-push.ensures.items c.in_ok-of.ensures c.loop-ty.invariant.builds c.in_ok-part.ensures;
  linear = λ e. (linear_step c.args.types.now c.loop-ty.ty-index c.ty-item.result c.loop-ty-test.true c.ty-item.is (c.loop-ty.invariant.linear e)).1;
}
