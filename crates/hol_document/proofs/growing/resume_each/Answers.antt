-- One turn of the loop: the slot here is the first of those that are left, and the state goes on with its outcome.
use Rattle.std.proofs.Common.{◌≡◌, ap, sym, subst, map, drop, []}
use Rattle.std.proofs.Math.ListN.{drop_of_length-le}
use Rattle.hol_document.specs.Slots.{AreSlots}
use Rattle.hol_document.proofs.Redone.{slot_here}
use Rattle.hol_document.proofs.Standing.{slot_at}
use Rattle.hol_document.proofs.growing.resume_each.Goals as goal

pub resume-requires-clause-at : goal.resume-requires-clause-at
resume-requires-clause-at c =
    let left = c.loop-slot.invariant c.requires.0 c.requires.1 c.requires.3 c.requires.4 in
    let here = slot_here (λ x. x.value) c.requires.0 c.requires.1 c.loop-slot.state c.requires.3 c.args.slots.now c.loop-slot.slot-index c.slot-item.result c.loop-slot-test.true c.slot-item.is left in
    rw (c.deref-in-loop-slot.ensures, c.outcome.ensures, c.deref.ensures)
    (slot_at c.requires.0 c.requires.1 c.loop-slot.state c.slot-item.result.value.text c.slot-item.result.value.row c.requires.2 here.0.row)

pub loop-slot-preserved : goal.loop-slot-preserved
loop-slot-preserved c = λ setup before last are.
    let here = slot_here (λ x. x.value) setup before c.loop-slot.state last c.args.slots.now c.loop-slot.slot-index c.slot-item.result c.loop-slot-test.true c.slot-item.is (c.loop-slot.invariant setup before last are) in
    rw (c.in_ok-resume.ensures.ok, c.deref-in-loop-slot.ensures, c.outcome.ensures, c.deref.ensures) here.1

pub returns : goal.returns
returns c =
    let none : map (λ x. x.value) (drop c.loop-slot.slot-index c.args.slots.now) ≡ [] = ap (map (λ x. x.value)) (drop_of_length-le c.args.slots.now c.loop-slot-test.false) in
    λ setup before last are. sym (subst (λ slots. AreSlots setup before c.loop-slot.state slots last) none (c.loop-slot.invariant setup before last are))
