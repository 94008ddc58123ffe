use Rattle.hol_theory.proofs.Comparing.{same_hypotheses}
use Rattle.hol_theory.proofs.same.same_hyps.Goals as goal

pub returns : goal.returns
returns c = same_hypotheses _ _ _ _ _ c.hyps.ensures.set c.hyps.ensures.ordered c.hyps-2.ensures.set c.hyps-2.ensures.ordered c.alpha_equivalent_terms.ensures
