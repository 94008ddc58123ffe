use Rattle.std.proofs.Common.{subst}
use Rattle.std.proofs.lemmas.Result.{IfOk-weaker}
use Rattle.hol_kernel.specs.Given.{Given}
use Rattle.hol_just.specs.Justifies.{LeavesCases}
use Rattle.hol_steps.proofs.pieces.splitting.Goals as goal

pub returns : goal.returns
returns c = IfOk-weaker c.disj_cases_tac-just.result _ _ (λ just made. subst (λ (th : Given). LeavesCases th just) c.in_ok-given.ensures made) c.disj_cases_tac-just.ensures
