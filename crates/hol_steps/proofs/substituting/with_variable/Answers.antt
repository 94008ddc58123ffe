use Rattle.std.proofs.Common.{[], ◌∙◌}
use Rattle.std.proofs.lemmas.Result.{IfOk-weaker}
use Rattle.hol_terms.specs.Nameless.{nameless}
use Rattle.hol_just.specs.Replacing.{replace_each}
use Rattle.hol_steps.proofs.substituting.with_variable.Goals as goal

pub returns-clause-is : goal.returns-clause-is
returns-clause-is c =
    IfOk-weaker c.replaced.result _ _
    (λ r made. made ∙ (λ i. replace_each (nameless [] c.args.t.now) (nameless [] (c.in_ok-variable.ensures.is i)) (nameless [] c.args.formula.now)))
    c.replaced.ensures.is
