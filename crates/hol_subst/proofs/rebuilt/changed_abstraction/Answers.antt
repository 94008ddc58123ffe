use Rattle.std.proofs.Common.{sym, ◌∙◌}
use Rattle.std.proofs.lemmas.Result.{IfOk-weaker}
use Rattle.hol_subst.proofs.InstSteps.{kept_abstraction}
use Rattle.hol_subst.proofs.rebuilt.changed_abstraction.Goals as goal

pub returns-then-same : goal.returns-then-same
returns-then-same c =
    IfOk-weaker c.copy.result _ _ (λ r e. e ∙ c.requires ∙ kept_abstraction c.args.v.now c.args.u.now c.args.b.now c.args.c (c.same_node.ensures c.if-same_node.true) (sym c.if-same.true ∙ c.same.ensures)) c.copy.ensures
