use Rattle.std.proofs.Common.{[], ap, ◌∙◌}
use Rattle.std.proofs.lemmas.Result.{IfOk-weaker}
use Rattle.hol_terms.specs.Nameless.{free, nameless}
use Rattle.hol_just.specs.Replacing.{replace_each}
use Rattle.hol_steps.proofs.Templates.{general_is}
use Rattle.hol_steps.proofs.substituting.general_formula.Goals as goal

pub returns-clause-is : goal.returns-clause-is
returns-clause-is c =
    let n = replace_each (nameless [] c.args.t.now) (free c.args.x.now) (nameless [] c.args.formula.now) in
    IfOk-weaker c.mk_forall.result _ _ (λ g made. ap (nameless []) made ∙ general_is c.args.x.now c.in_ok-body.body n c.in_ok-body.ensures.is) c.mk_forall.ensures.is
