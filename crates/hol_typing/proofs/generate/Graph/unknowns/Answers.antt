use Rattle.hol_typing.proofs.Slots.{unknown_none, unknown_more}
use Rattle.hol_typing.proofs.generate.Graph.unknowns.Goals as goal

pub loop-preserved : goal.loop-preserved
loop-preserved c = unknown_more c.args.self.now c.loop.self c.fresh.new.self c.loop.counter c.in_ok-fresh.field-0 c.loop.invariant c.in_ok-fresh.ensures

pub loop-init : goal.loop-init
loop-init c = unknown_none c.args.self.now c.requires
