use Rattle.std.proofs.Common.{subst}
use Rattle.std.proofs.lemmas.Result.{IfOk-weaker}
use Rattle.hol_kernel.specs.Given.{Given}
use Rattle.hol_just.specs.Justifies.{LeavesChosen}
use Rattle.hol_steps.proofs.pieces.choosing.Goals as goal

pub returns : goal.returns
returns c = IfOk-weaker c.choose_tac-just.result _ _ (λ just made. subst (λ (th : Given). LeavesChosen c.args.v.now th just) c.in_ok-given.ensures made) c.choose_tac-just.ensures
