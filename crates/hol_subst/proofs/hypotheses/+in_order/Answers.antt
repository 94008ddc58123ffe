use Rattle.std.proofs.Common.{◌/◌, length, rules}
use Rattle.std.proofs.lemmas.Result.{IfOk-weaker}
use Rattle.hol_subst.proofs.HypothesisLists.{sorted_halves}
use Rattle.hol_subst.proofs.hypotheses.+in_order.Goals as goal

pub returns-clause-set : goal.returns-clause-set
returns-clause-set t c =
    IfOk-weaker c.merged.result _ _
    (λ all e. sorted_halves c.args.terms.now c.deref.result.now c.deref-2.result.now all.items (length c.args.terms.now / 2) (search rules) (search rules) e)
    c.merged.ensures
