use Rattle.std.proofs.Common.{arith}
use Rattle.hol_typing.proofs.Bound.{bound_step, bound_more, bound_all}
use Rattle.hol_typing.proofs.Linear.{linear_but_step}
use Rattle.hol_typing.proofs.generate.Graph.bound_slots.Goals as goal

pub bound_slot-requires-clause-well_formed : goal.bound_slot-requires-clause-well_formed
bound_slot-requires-clause-well_formed c = c.loop-ty.invariant.builds.well_formed

pub bound_slot-requires-clause-row_in : goal.bound_slot-requires-clause-row_in
bound_slot-requires-clause-row_in c =
    let more = bound_more c.args.self.now c.loop-ty.self c.args.names.now.value.items c.args.base c.loop-ty.parts.items _ c.loop-ty.invariant.builds in
    let row = c.requires.row_in in
    omega (arith, more, row)

pub bound_slot-requires-clause-linear : goal.bound_slot-requires-clause-linear
bound_slot-requires-clause-linear c = (linear_but_step c.args.names.now.value.items c.args.types.now c.loop-ty.ty-index c.ty-item.result c.loop-ty-test.true c.ty-item.is c.loop-ty.invariant.linear).0

pub loop-ty-preserved : goal.loop-ty-preserved
loop-ty-preserved c = record {
  builds = bound_step c.args.self.now c.loop-ty.self c.bound_slot.new.self c.args.names.now.value.items c.args.base c.loop-ty.parts.items c.push.new.self.items c.args.types.now c.loop-ty.ty-index c.in_ok-part.part c.ty-item.result
      c.requires.row_in c.loop-ty-test.true c.ty-item.is c.in_ok-push.ensures.items c.loop-ty.invariant.builds c.in_ok-part.ensures;
  linear = (linear_but_step c.args.names.now.value.items c.args.types.now c.loop-ty.ty-index c.ty-item.result c.loop-ty-test.true c.ty-item.is c.loop-ty.invariant.linear).1;
}

pub returns : goal.returns
returns c = bound_all c.args.self.now c.loop-ty.self c.args.names.now.value.items c.args.base c.loop-ty.parts.items c.args.types.now c.loop-ty.ty-index c.loop-ty-test.false c.loop-ty.invariant.builds
