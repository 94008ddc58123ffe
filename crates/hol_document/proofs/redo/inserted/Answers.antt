-- The theory goes on after its first slots with the new one, and with what is redone of the rest.
use Rattle.std.proofs.Common.{◌++◌, ◌∷◌, [], ap, ◌∙◌, map, drop}
use Rattle.std.proofs.lemmas.Result.{IfOk-weaker}
use Rattle.hol_document.specs.RunnerView.{setup_of}
use Rattle.hol_document.specs.Slots.{ended_of}
use Rattle.hol_document.proofs.Edited.{insert_edited}
use Rattle.hol_document.proofs.Standing.{each_imports_same}
use Rattle.hol_document.proofs.redo.inserted.Goals as goal

pub front-requires : goal.front-requires
front-requires g c = record { at = c.requires.fits; stood = (setup_of c.args.runner.now, c.requires.stood) }

pub redo-requires : goal.redo-requires
redo-requires g c =
    let parts = c.in_ok-growing.ensures.are (setup_of c.args.runner.now) (map ended_of c.args.earlier.now) c.args.theory.now.last c.requires.stood in
    record {
      from = c.requires.fits;
      stood = (map ended_of c.args.earlier.now, c.in_ok-growing.growing.state, rw c.in_ok-insert.ensures.goes.0 parts.1, c.in_ok-insert.ensures.alike, each_imports_same (map ended_of c.args.earlier.now) (drop c.args.at c.args.theory.now.slots));
    }

pub returns-clause-edited : goal.returns-clause-edited
returns-clause-edited g c =
    let parts = c.in_ok-growing.ensures.are (setup_of c.args.runner.now) (map ended_of c.args.earlier.now) c.args.theory.now.last c.requires.stood in
    let put = c.in_ok-insert.ensures.put in
    IfOk-weaker c.redo.result _ _ (λ r added.
    insert_edited (setup_of c.args.runner.now) (map ended_of c.args.earlier.now) c.in_ok-growing.growing.state c.insert.new.growing.state r.theory.last c.args.at c.args.theory.now.slots r.theory.slots
    (map (λ x. x.value) c.insert.new.growing.slots.items) put.0 c.args.line.now.value.text _ _ _
    parts.0 put.2 (put.1 ∙ ap (λ zs. zs ++ put.0 ∷ []) c.in_ok-growing.ensures.slots) (rw c.in_ok-insert.ensures.goes.0 at added)) c.redo.ensures.slots
