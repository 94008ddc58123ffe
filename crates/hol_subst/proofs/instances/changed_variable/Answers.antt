use Rattle.std.proofs.Common.{ap, sym, ◌∙◌}
use Rattle.std.proofs.lemmas.Result.{IfOk-weaker}
use Rattle.hol_terms.specs.Named.{var}
use Rattle.hol_subst.proofs.InstSteps.{same_variable}
use Rattle.hol_subst.proofs.instances.changed_variable.Goals as goal

pub returns-then-same-clause-is : goal.returns-then-same-clause-is
returns-then-same-clause-is c =
    IfOk-weaker c.copy.result _ _ (λ r e. e ∙ c.requires ∙ ap var (sym (same_variable c.in_ok-u.u c.args.v.now (sym c.if-same.true ∙ c.same.ensures)) ∙ c.in_ok-u.ensures.is)) c.copy.ensures
