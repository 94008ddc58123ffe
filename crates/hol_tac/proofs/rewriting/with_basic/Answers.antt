use Rattle.std.proofs.Common.{◌≡◌, ◌++◌, List, ap, map}
use Rattle.std.proofs.lemmas.Result.{IfOk-weaker}
use Rattle.hol_kernel.specs.Given.{Given, proved}
use Rattle.hol_match.specs.Contracta.{contracta}
use Rattle.hol_match.specs.SetView.{AreOf}
use Rattle.hol_just.specs.ConversionTacs.{basic, rules_by}
use Rattle.hol_tac.proofs.rewriting.with_basic.Goals as goal
use Rattle.std.proofs.Common.{◌∙◌, subst}

pub returns-clause-rules : goal.returns-clause-rules
unfolding basic
returns-clause-rules c = IfOk-weaker c.with_kept.result _ _ (λ set is. is ∙ ap (λ gs. contracta (rules_by (c.args.ths.now ++ gs))) c.basic.ensures) c.with_kept.ensures.rules

pub returns-clause-given : goal.returns-clause-given
unfolding basic
returns-clause-given c = IfOk-weaker c.with_kept.result _ _ (λ set are. subst (λ gs. AreOf (c.args.ths.now ++ gs) set.rules.items) c.basic.ensures are) c.with_kept.ensures.given
