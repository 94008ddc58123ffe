use Rattle.std.proofs.Common.{[], subst}
use Rattle.std.proofs.lemmas.Result.{IfOk-weaker}
use Rattle.hol_terms.specs.Nameless.{nameless}
use Rattle.hol_kernel.specs.Given.{Given}
use Rattle.hol_just.specs.Justifies.{ClosesByFalsity}
use Rattle.hol_steps.proofs.pieces.contradicting.Goals as goal

pub returns : goal.returns
returns c =
    IfOk-weaker c.contr_tac-just.result _ _ (λ just made. subst (λ (th : Given). ClosesByFalsity (nameless [] c.args.conclusion.now) th just) c.in_ok-given.ensures made) c.contr_tac-just.ensures
