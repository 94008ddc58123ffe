use Rattle.std.proofs.Common.{◌≡◌, length}
use Rattle.hol_just.specs.MatchMp.{universals}
use Rattle.hol_steps.specs.Matching.{AreGeneral}
use Rattle.hol_steps.proofs.generalizing.generalized_theorem.Given as goal

abbrev pub invariant-variables : goal.invariant-variables
invariant-variables l = record {
  basis : l.whole.basis ≡ l.th.basis;
  hyps : l.whole.sequent.hyps ≡ l.th.sequent.hyps;
  concl : universals l.left l.whole.sequent.concl ≡ universals l.variables l.th.sequent.concl;
  general : AreGeneral l.th.basis l.th.sequent.hyps l.left;
}

abbrev pub decreases-variables : goal.decreases-variables
decreases-variables l = length l.left
