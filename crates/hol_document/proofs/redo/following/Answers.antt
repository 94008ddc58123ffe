-- A theory that imports none of the names stands as it is; another one is redone from its first slot.
use Rattle.std.proofs.Common.{ap, map, arith}
use Rattle.std.proofs.lemmas.Result.{IfOk-weaker}
use Rattle.hol_document.specs.RunnerView.{setup_of, ran_of}
use Rattle.hol_exec.specs.StateValue.{start}
use Rattle.hol_document.specs.Alike.{EachImportsAlike, no_drift}
use Rattle.hol_document.specs.Slots.{ended_of}
use Rattle.hol_document.proofs.Alike.{alike_itself}
use Rattle.hol_document.proofs.Edited.{edited_same}
use Rattle.hol_document.proofs.Followed.{redone_whole}
use Rattle.hol_document.proofs.Standing.{slots_elsewhere}
use Rattle.hol_document.proofs.redo.following.Goals as goal

pub returns-then-until-eq0-clause-edited : goal.returns-then-until-eq0-clause-edited
returns-then-until-eq0-clause-edited g c =
    let imports = c.past_imports-until.ensures c.requires.0 (map ended_of c.args.earlier.now) c.requires.2 in
    let none : EachImportsAlike c.requires.0 (map ended_of c.args.earlier.now) c.args.theory.now.slots = rw (c.if-until-eq0.true, c.slots.ensures) at imports in
    rw c.in_ok-theory.ensures (edited_same (setup_of c.args.runner.now) (map ended_of c.args.earlier.now) c.args.theory.now.slots c.args.theory.now.last (ran_of c.args.runner.now)
    (slots_elsewhere (setup_of c.args.runner.now) c.requires.0 (map ended_of c.args.earlier.now) start c.args.theory.now.slots c.args.theory.now.last none c.requires.1))

pub redo-requires : goal.redo-requires
redo-requires g c = record {
  from = omega arith;
  stood = (
    c.requires.0,
    start,
    c.requires.1,
    rw (c.begun.ensures.drift, c.begun.ensures.state) (alike_itself no_drift start),
    rw c.slots.ensures at (c.past_imports-until.ensures c.requires.0 (map ended_of c.args.earlier.now) c.requires.2),
  );
}

pub returns-clause-edited : goal.returns-clause-edited
returns-clause-edited g c = IfOk-weaker c.redo.result _ _ (λ r added.
    redone_whole (setup_of c.args.runner.now) (map ended_of c.args.earlier.now) r.theory.last c.args.theory.now.slots (map (λ x. x.value) c.begun.result.slots.items) r.theory.slots _ _
    (ap (map (λ x. x.value)) c.begun.ensures.slots) (rw c.begun.ensures.state at added)) c.redo.ensures.slots
