use Rattle.std.proofs.Common.{◌-◌, ap, sym, ◌∙◌, arith}
use Rattle.hol_document.specs.Slots.{SlotValue}
use Rattle.hol_document.proofs.Redone.{kept_leads}
use Rattle.hol_document.proofs.growing.last_kept.Goals as goal

pub returns-in-Some-clause-state : goal.returns-in-Some-clause-state
returns-in-Some-clause-state c =
    kept_leads (λ x. x.value) c.args.slots.now (c.loop-at.at - 1) c.index-slots-at.result c.in-Some.state (omega (arith, c.loop-at.invariant, c.loop-at-test.true)) c.index-slots-at.is
    (sym (ap (λ (slot : SlotValue). slot.kept) c.deref.ensures) ∙ (sym c.kept.ensures ∙ c.in-Some.is))
