use Rattle.std.proofs.Common.{[], ◌∷◌, ◌++◌, ap, ◌∙◌, Some}
use Rattle.hol_terms.specs.Named.{Named}
use Rattle.hol_terms.specs.Nameless.{nameless}
use Rattle.hol_subst.specs.Pairs.{nameless_pairs}
use Rattle.hol_steps.proofs.opening.put_occurrence.Goals as goal

pub put_pair-requires : goal.put_pair-requires
put_pair-requires c = c.in_ok-variable.ensures.typed ∙ ap Some c.requires

pub returns-clause-avoid : goal.returns-clause-avoid
returns-clause-avoid c = c.in_ok-push.ensures.items ∙ ap (λ (t : Named). c.args.avoid.now.items ++ t ∷ []) c.in_ok-variable.ensures.is

pub returns-clause-put : goal.returns-clause-put
returns-clause-put c = c.in_ok-put_pair.ensures.put ∙ ap (λ (t : Named). (nameless [] t, c.args.x.now) ∷ nameless_pairs c.args.pairs.now.items) c.in_ok-variable.ensures.is
