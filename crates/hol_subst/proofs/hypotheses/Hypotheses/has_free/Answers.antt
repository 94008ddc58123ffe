use Rattle.std.proofs.Common.{sym, ◌∙◌}
use Rattle.hol_subst.proofs.HypothesisLists.{free_in_hyps}
use Rattle.hol_subst.proofs.hypotheses.Hypotheses.has_free.Goals as goal

pub returns : goal.returns
returns c = c.is_free_in_one.ensures ∙ sym (free_in_hyps c.args.self.now c.terms.result.now c.args.v.now c.terms.ensures.set)
