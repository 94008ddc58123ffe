use Rattle.std.proofs.Common.{◌≡◌, rules}
use Rattle.hol_typing.specs.declared.fault.Fault.TheVariants.{Untypable}
use Rattle.hol_typing.specs.Graph.{HasNoSolution}
use Rattle.hol_typing.proofs.General.{unsettled}
use Rattle.hol_typing.proofs.Opening.{refines_refl, refines_trans}
use Rattle.hol_typing.proofs.generate.Graph.settle.Goals as goal

pub loop-slot-init : goal.loop-slot-init
loop-slot-init c = refines_refl c.args.self.now c.requires

pub loop-slot-preserved : goal.loop-slot-preserved
loop-slot-preserved c = refines_trans c.args.self.now c.unify_some.new.self c.expand.new.self
    (refines_trans c.args.self.now c.loop-slot.self c.unify_some.new.self c.loop-slot.invariant c.in_ok-slot.ensures.refines) c.in_ok-expand.ensures.refines

pub returns-clause-refines : goal.returns-clause-refines
returns-clause-refines c = refines_trans c.args.self.now c.loop-slot.self c.unify_some.new.self c.loop-slot.invariant c.in_ok-slot.ensures.refines

pub returns-in_err-slot-clause-untypable : goal.returns-in_err-slot-clause-untypable
returns-in_err-slot-clause-untypable c =
    let none : c.in_err-slot.field-0.0 ≡ Untypable → HasNoSolution c.args.self.now.cells.items c.args.self.now.pending.items =
    λ e. unsettled c.args.self.now c.loop-slot.self c.loop-slot.invariant (c.in_err-slot.ensures.untypable e) in
    search rules
