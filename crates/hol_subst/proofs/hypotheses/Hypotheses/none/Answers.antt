use Rattle.std.proofs.Common.{[], refl}
use Rattle.hol_subst.proofs.HypothesisLists.{ordered_none}
use Rattle.hol_subst.proofs.hypotheses.Hypotheses.none.Goals as goal

pub invariant_of-result : goal.invariant_of-result
invariant_of-result c = ordered_none [] refl
