-- The theory goes on after its first slots with the new one in the place of the old, and with what is redone of the rest.
use Rattle.std.proofs.Common.{◌++◌, ◌∷◌, [], ap, ◌∙◌, map, drop, ◌+◌, arith}
use Rattle.std.proofs.lemmas.Result.{IfOk-weaker}
use Rattle.hol_document.specs.RunnerView.{setup_of}
use Rattle.hol_exec.specs.OutcomeValue.{after}
use Rattle.hol_document.specs.Slots.{ended_of}
use Rattle.hol_document.proofs.Edited.{replace_edited, slot_there, value_there}
use Rattle.hol_document.proofs.Standing.{each_imports_same}
use Rattle.hol_document.proofs.redo.replaced.Goals as goal

pub front-requires : goal.front-requires
front-requires g c = record { at = omega (arith, c.requires.fits); stood = (setup_of c.args.runner.now, c.requires.stood) }

pub replace-requires-clause-stood : goal.replace-requires-clause-stood
replace-requires-clause-stood g c =
    let parts = c.in_ok-growing.ensures.are (setup_of c.args.runner.now) (map ended_of c.args.earlier.now) c.args.theory.now.last c.requires.stood in
    let here = slot_there (setup_of c.args.runner.now) (map ended_of c.args.earlier.now) c.in_ok-growing.growing.state c.args.theory.now.last c.args.at c.args.theory.now.slots c.index-slots-at.result.value c.requires.fits
    (value_there (λ x. x.value) c.slots.result.now c.args.theory.now.slots c.args.at c.index-slots-at.result c.slots.ensures c.requires.fits c.index-slots-at.is) parts.1 in
    rw c.deref.ensures (map ended_of c.args.earlier.now, c.in_ok-growing.growing.state, here.0)

pub replace-requires-clause-opened : goal.replace-requires-clause-opened
replace-requires-clause-opened g c =
    let parts = c.in_ok-growing.ensures.are (setup_of c.args.runner.now) (map ended_of c.args.earlier.now) c.args.theory.now.last c.requires.stood in
    let here = slot_there (setup_of c.args.runner.now) (map ended_of c.args.earlier.now) c.in_ok-growing.growing.state c.args.theory.now.last c.args.at c.args.theory.now.slots c.index-slots-at.result.value c.requires.fits
    (value_there (λ x. x.value) c.slots.result.now c.args.theory.now.slots c.args.at c.index-slots-at.result c.slots.ensures c.requires.fits c.index-slots-at.is) parts.1 in
    rw c.deref.ensures here.0.opened

pub redo-requires : goal.redo-requires
redo-requires g c =
    let parts = c.in_ok-growing.ensures.are (setup_of c.args.runner.now) (map ended_of c.args.earlier.now) c.args.theory.now.last c.requires.stood in
    let here = slot_there (setup_of c.args.runner.now) (map ended_of c.args.earlier.now) c.in_ok-growing.growing.state c.args.theory.now.last c.args.at c.args.theory.now.slots c.index-slots-at.result.value c.requires.fits
    (value_there (λ x. x.value) c.slots.result.now c.args.theory.now.slots c.args.at c.index-slots-at.result c.slots.ensures c.requires.fits c.index-slots-at.is) parts.1 in
    record {
      from = omega (arith, c.requires.fits);
      stood = (
        map ended_of c.args.earlier.now,
        after c.in_ok-growing.growing.state c.index-slots-at.result.value.row.outcome,
        rw c.in_ok-replace.ensures.goes.0 here.1,
        rw c.deref.ensures at c.in_ok-replace.ensures.alike,
        each_imports_same (map ended_of c.args.earlier.now) (drop (c.args.at + 1) c.args.theory.now.slots),
      );
    }

pub returns-clause-edited : goal.returns-clause-edited
returns-clause-edited g c =
    let parts = c.in_ok-growing.ensures.are (setup_of c.args.runner.now) (map ended_of c.args.earlier.now) c.args.theory.now.last c.requires.stood in
    let put = c.in_ok-replace.ensures.put in
    IfOk-weaker c.redo.result _ _ (λ r added.
    replace_edited (setup_of c.args.runner.now) (map ended_of c.args.earlier.now) c.in_ok-growing.growing.state c.replace.new.growing.state r.theory.last c.args.at c.args.theory.now.slots r.theory.slots
    (map (λ x. x.value) c.replace.new.growing.slots.items) put.0 c.args.line.now.value.text _ _ _ c.requires.fits
    parts.0 put.2 (put.1 ∙ ap (λ zs. zs ++ put.0 ∷ []) c.in_ok-growing.ensures.slots) (rw c.in_ok-replace.ensures.goes.0 at added)) c.redo.ensures.slots
