use Rattle.std.proofs.Common.{[], ◌∙◌}
use Rattle.hol_terms.specs.Nameless.{nameless}
use Rattle.hol_steps.proofs.TermsBy.{in_goal, in_conclusion, in_hypotheses}
use Rattle.hol_steps.proofs.choosing.is_free_by.Goals as goal

pub returns-then-is_free_in_goal : goal.returns-then-is_free_in_goal
returns-then-is_free_in_goal c = in_goal c.args.th.now c.args.goal.now c.args.v.now c.if-is_free_in_goal.ensures

pub returns-then-vfree_in : goal.returns-then-vfree_in
returns-then-vfree_in c = in_conclusion c.args.th.now c.args.goal.now (nameless [] c.concl.result.now) c.args.v.now c.concl.ensures.concl c.if-is_free_in_goal.ensures c.if-vfree_in.ensures.free

pub returns : goal.returns
returns c =
    c.is_free_in_one.ensures
    ∙ in_hypotheses c.args.th.now c.args.goal.now (nameless [] c.concl.result.now) c.hyps.result.now c.args.v.now c.concl.ensures.concl c.hyps.ensures c.if-is_free_in_goal.ensures c.if-vfree_in.ensures.free
