use Rattle.std.proofs.Common.{sym, ◌∙◌}
use Rattle.hol_subst.proofs.HypothesisLists.{free_in_list}
use Rattle.hol_subst.proofs.variants.free_in_any.Goals as goal

pub returns : goal.returns
returns c = c.is_free_in_one.ensures ∙ sym (free_in_list c.args.avoid.now c.args.v.now)
