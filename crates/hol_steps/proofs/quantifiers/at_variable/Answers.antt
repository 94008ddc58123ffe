use Rattle.std.proofs.Common.{[], ◌∷◌, ap, ◌∙◌, Some}
use Rattle.std.proofs.lemmas.Result.{IfOk-weaker}
use Rattle.hol_terms.specs.Named.{Named}
use Rattle.hol_terms.specs.Nameless.{nameless}
use Rattle.hol_subst.specs.Closing.{open_with}
use Rattle.hol_steps.proofs.quantifiers.at_variable.Goals as goal

pub at-requires-clause-argument : goal.at-requires-clause-argument
at-requires-clause-argument c = c.in_ok-variable.ensures.typed ∙ ap Some c.requires.same

pub returns-clause-is : goal.returns-clause-is
returns-clause-is c =
    IfOk-weaker c.at.result _ _ (λ r made. made ∙ ap (λ (t : Named). open_with (nameless [] t) 0 (nameless (c.args.x.now ∷ []) c.args.p.now)) c.in_ok-variable.ensures.is) c.at.ensures.is
