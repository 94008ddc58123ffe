use Rattle.std.proofs.Common.{map, refl}
use Rattle.hol_document.specs.RunnerView.{setup_of}
use Rattle.hol_document.specs.Slots.{ended_of}
use Rattle.hol_document.proofs.Settled.{row_keyed, opened_again, few_again}
use Rattle.hol_document.proofs.Standing.{slot_at}
use Rattle.hol_document.proofs.settle.settle.Goals as goal

pub keeps-requires : goal.keeps-requires
keeps-requires g c = rw c.deref.ensures (row_keyed (setup_of c.args.runner.now) c.requires.stood.0 c.requires.stood.1 c.args.slot.now.value.text c.args.slot.now.value.row c.requires.stood.2.row)

pub go_on-requires : goal.go_on-requires
go_on-requires g c =
    let kept = rw c.deref.ensures at (c.if-keeps.ensures.yes refl (setup_of c.args.runner.now) c.requires.stood.0 (map ended_of c.args.earlier.now) c.requires.stood.1 c.requires.stood.3) in
    record {
      at = slot_at (setup_of c.args.runner.now) (map ended_of c.args.earlier.now) c.args.state.now c.args.slot.now.value.text c.args.slot.now.value.row c.requires.theories (kept c.requires.stood.2.row);
      opened = opened_again c.args.drift.now c.requires.stood.1 c.args.state.now c.args.slot.now.value c.requires.stood.2.opened c.requires.stood.3;
    }

pub returns-clause-few : goal.returns-clause-few
returns-clause-few g c =
    let counted = rw c.deref.ensures at (c.if-keeps.ensures.no refl (setup_of c.args.runner.now) (map ended_of c.args.earlier.now)) in (
      c.run_again.ensures.few.0,
      c.run_again.ensures.few.1,
      few_again (λ x. x.value) c.run_again.result (setup_of c.args.runner.now) (map ended_of c.args.earlier.now) c.args.state.now c.args.slot.now.value _ _
          c.run_again.ensures.slot (rw c.deref-2.ensures at c.run_again.ensures.text) counted c.run_again.ensures.few.2,
    )
