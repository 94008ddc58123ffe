use Rattle.std.proofs.Common.{arith}
use Rattle.hol_typing.proofs.Types.{types_step, rigid_step}
use Rattle.hol_typing.proofs.generate.Graph.type_slots.Goals as goal

pub loop-ty-preserved : goal.loop-ty-preserved
loop-ty-preserved c = record {
  builds = types_step c.args.self.now c.loop-ty.self c.type_slot.new.self c.args.names.now c.args.base c.loop-ty.parts.items c.push.new.self.items c.args.types.now c.loop-ty.ty-index c.in_ok-part.part c.ty-item.result
      c.loop-ty-test.true c.ty-item.is c.in_ok-push.ensures.items c.loop-ty.invariant.builds c.in_ok-part.ensures;
  rigid = (rigid_step c.args.names.now c.args.types.now c.loop-ty.ty-index c.ty-item.result c.loop-ty-test.true c.ty-item.is c.loop-ty.invariant.rigid).1;
}

pub type_slot-requires-clause-rigid : goal.type_slot-requires-clause-rigid
type_slot-requires-clause-rigid c = (rigid_step c.args.names.now c.args.types.now c.loop-ty.ty-index c.ty-item.result c.loop-ty-test.true c.ty-item.is c.loop-ty.invariant.rigid).0

pub type_slot-requires-clause-base_in : goal.type_slot-requires-clause-base_in
type_slot-requires-clause-base_in c =
    let more = c.loop-ty.invariant.builds.more in
    let base_in = c.requires.base_in in
    omega (arith, more, base_in)
