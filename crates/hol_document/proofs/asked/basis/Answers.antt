use Rattle.std.proofs.Common.{None}
use Rattle.std.proofs.lemmas.Result.{IfOk-weaker}
use Rattle.hol_document.proofs.Reported.{basis_stands}
use Rattle.hol_document.proofs.asked.basis.Goals as goal

pub returns-in-Some : goal.returns-in-Some
returns-in-Some c = IfOk-weaker c.basis_texts.result _ _ (λ texts told.
    basis_stands c.args.theories.now c.args.i c.at-theory.result.now c.args.name.now c.in_ok-key.key _ _ c.at-theory.ensures (rw (c.deref.ensures, c.last-state.ensures) at c.promise.ensures.theory) c.in_ok-key.ensures
    (rw (c.deref-2.ensures, c.last-state.ensures) at c.in-Some.ensures) told) c.basis_texts.ensures

pub returns : goal.returns
returns c =
    basis_stands c.args.theories.now c.args.i c.at-theory.result.now c.args.name.now c.in_ok-key.key _ None c.at-theory.ensures (rw (c.deref.ensures, c.last-state.ensures) at c.promise.ensures.theory) c.in_ok-key.ensures
    (rw (c.in-None.is, c.deref-2.ensures, c.last-state.ensures) at c.entry.ensures) tt
