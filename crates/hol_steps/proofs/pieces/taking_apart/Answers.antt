use Rattle.std.proofs.Common.{subst}
use Rattle.std.proofs.lemmas.Result.{IfOk-weaker}
use Rattle.hol_kernel.specs.Given.{Given}
use Rattle.hol_just.specs.Justifies.{LeavesConjuncts}
use Rattle.hol_steps.proofs.pieces.taking_apart.Goals as goal

pub returns : goal.returns
returns c = IfOk-weaker c.conjuncts-just.result _ _ (λ just made. subst (λ (th : Given). LeavesConjuncts th just) c.in_ok-given.ensures made) c.conjuncts-just.ensures
