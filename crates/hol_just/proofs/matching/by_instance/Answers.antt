use Rattle.std.proofs.Common.{[], subst}
use Rattle.std.proofs.lemmas.Result.{IfOk-weaker}
use Rattle.hol_terms.specs.Named.{Named}
use Rattle.hol_terms.specs.Nameless.{nameless}
use Rattle.hol_just.specs.Matching.{bound_variables}
use Rattle.hol_just.specs.Justifies.{ClosesByInstance}
use Rattle.hol_just.proofs.matching.by_instance.Goals as goal

pub returns : goal.returns
returns c =
    IfOk-weaker c.instance.result _ _ (λ just made. subst (λ (t : Named). ClosesByInstance c.args.th.now (bound_variables c.args.formula.now) (nameless [] t) just) c.in_ok-whole.ensures.is made)
    c.instance.ensures
