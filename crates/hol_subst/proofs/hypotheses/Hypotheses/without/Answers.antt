use Rattle.hol_subst.proofs.HypothesisLists.{but_ordered}
use Rattle.hol_subst.proofs.hypotheses.Hypotheses.without.Goals as goal

pub made-requires : goal.made-requires
made-requires c = but_ordered c.args.p.now c.terms-terms.result.now c.in_ok-rest.rest.items c.in_ok-rest.ensures c.terms-terms.ensures.ordered
