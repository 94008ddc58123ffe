use Rattle.hol_document.specs.RunnerView.{setup_of}
use Rattle.hol_document.proofs.Redone.{slot_here}
use Rattle.hol_document.proofs.runner.Runner.leave_each.Goals as goal

pub leave-requires : goal.leave-requires
leave-requires g c =
    let inv = c.loop-slot.invariant in
    let here = slot_here (λ x. x.value) (setup_of c.args.self.now) inv.left.0 inv.left.1 inv.left.2 c.args.slots.now c.loop-slot.slot-index c.slot-item.result c.loop-slot-test.true c.slot-item.is inv.left.3 in
    (inv.left.0, inv.left.1, rw (c.deref.ensures, inv.stays.0) here.0)
