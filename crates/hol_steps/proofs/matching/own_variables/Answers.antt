use Rattle.std.proofs.Common.{[], ◌∙◌}
use Rattle.std.proofs.lemmas.Result.{IfOk-weaker}
use Rattle.hol_terms.specs.Nameless.{nameless}
use Rattle.hol_steps.proofs.OwnVariables.{own_listed}
use Rattle.hol_steps.proofs.matching.own_variables.Goals as goal

pub returns : goal.returns
returns c =
    IfOk-weaker c.pattern_variables.result _ _ (λ vs made. made ∙ own_listed c.args.th.now c.hyps.result.now (nameless [] c.concl.result.now) c.hyps.ensures c.concl.ensures.concl)
    c.pattern_variables.ensures
