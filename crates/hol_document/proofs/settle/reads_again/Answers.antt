use Rattle.std.proofs.Common.{ap, sym, ◌∙◌, subst}
use Rattle.std.proofs.lemmas.Bool.{true≢false}
use Rattle.std.specs.Prelude.{◌≡◌, Some}
use Rattle.std.specs.Option.{option_map}
use Rattle.hol_exec.specs.CommandView.{local_text}
use Rattle.hol_document.proofs.Agreeing.{reads_agree}
use Rattle.hol_document.proofs.Alike.{IsTold, row_passed, row_read_again}
use Rattle.hol_document.proofs.Settled.{passed_over}
use Rattle.hol_document.proofs.settle.reads_again.Goals.{then-has_same_proof, else-has_same_proof}
use Rattle.hol_document.proofs.settle.reads_again.Goals as goal

pub returns-then-is_apart-clause-yes : goal.returns-then-is_apart-clause-yes
returns-then-is_apart-clause-yes c = λ yes setup before earlier s alike told is.
    let read : c.args.slot.now.row.reads ≡ Some c.in-Some.reads.value = sym c.reads.ensures ∙ ap (option_map (λ r. r.value)) c.in-Some.is in
    elim c.if-has_same_proof.branch [
      | then-has_same_proof w ↦
          row_passed setup before earlier c.args.drift.now s c.args.state.now c.args.slot.now.text c.args.slot.now.row alike
          (passed_over c.args.drift.now c.args.slot.now.row (local_text c.args.command.now) c.in-Some.reads.value c.requires.value read c.requires.keyed
          (sym c.has_same_proof.ensures ∙ w.if-has_same_proof.true) ((rw (w.changes.ensures, w.deref.ensures) at w.is_apart.ensures) (sym w.value-is ∙ yes)))
          (subst (IsTold c.args.state.now c.args.slot.now.row.tested) (sym c.requires.value) told) is
      | else-has_same_proof w ↦ absurd (true≢false (sym yes ∙ (w.value-is ∙ w.if-has_same_proof.false)))
    ]

pub returns-else-is_apart-clause-yes : goal.returns-else-is_apart-clause-yes
returns-else-is_apart-clause-yes c = λ yes setup before earlier s alike told is.
    let read : c.args.slot.now.row.reads ≡ Some c.in-Some.reads.value = sym c.reads.ensures ∙ ap (option_map (λ r. r.value)) c.in-Some.is in
    row_read_again setup before earlier s c.args.state.now c.args.slot.now.text (local_text c.args.command.now) c.in-Some.reads.value c.args.slot.now.row c.requires.value read
    (reads_agree _ _ c.agree.result (rw c.deref-else-is_apart.ensures at c.agree.ensures) yes) told is
