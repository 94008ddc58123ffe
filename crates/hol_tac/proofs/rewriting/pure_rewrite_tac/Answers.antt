use Rattle.std.proofs.Common.{◌≡◌, ◌∙◌, IfOk, ap, sym, subst}
use Rattle.hol_goal.specs.Arguments.{Theorems}
use Rattle.hol_goal.specs.ArgumentsView.{args_value}
use Rattle.hol_goal.specs.declared.tac_code.TacCode.TheVariants as code
use Rattle.hol_just.specs.Answering.{AnswersCode}
use Rattle.hol_steps.specs.Converting.{LeadsBy}
use Rattle.hol_tac.proofs.GivenTo.{justified_alone}
use Rattle.hol_tac.proofs.rewriting.pure_rewrite_tac.Goals as goal

pub returns-clause-answer : goal.returns-clause-answer
returns-clause-answer c =
    let ths = c.deref.result.now in
    let is : args_value c.args.args.now ≡ Theorems ths = ap args_value c.in-Theorems.is ∙ ap (λ gs. Theorems gs) (sym c.deref.ensures.value) in
    subst (λ v. AnswersCode code.PureRewriteTac v c.args.goal.now c.args.names.now c.args.turns c.rewritten.result) (sym is) (c.rewritten.ensures.answer ths c.in_ok-rules.ensures.rules)

pub returns-clause-valid : goal.returns-clause-valid
returns-clause-valid c =
    justified_alone (args_value c.args.args.now) c.args.goal.now c.in-Theorems.ths.items (ap args_value c.in-Theorems.is) c.rewritten.result
    (subst (λ gs. IfOk c.rewritten.result (λ tried. LeadsBy c.args.goal.now gs tried.step)) c.deref.ensures.value (c.rewritten.ensures.valid c.deref.result.now c.in_ok-rules.ensures.given))
