use Rattle.std.proofs.lemmas.Result.{IfOk-weaker}
use Rattle.hol_document.specs.Asked.{theorem_texts}
use Rattle.hol_document.proofs.Reported.{theorems_stand}
use Rattle.hol_document.proofs.asked.theorems.Goals as goal

pub returns : goal.returns
returns c = IfOk-weaker c.theorem_texts.result _ _ (λ texts says.
    theorems_stand c.args.theories.now c.args.i c.at-theory.result.now _ c.at-theory.ensures (rw (c.deref.ensures, c.last-state.ensures) at c.promise.ensures.theory)
    (rw (c.env.ensures, c.deref-2.ensures, c.last-state.ensures) at says)) c.theorem_texts.ensures
