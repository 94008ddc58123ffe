use Rattle.std.proofs.Common.{◌≡◌, ◌∙◌, ◌++◌, ap, map, sym, subst}
use Rattle.hol_kernel.specs.Given.{assumed}
use Rattle.hol_goal.specs.Arguments.{Theorems}
use Rattle.hol_goal.specs.ArgumentsView.{args_value}
use Rattle.hol_goal.specs.declared.tac_code.TacCode.TheVariants as code
use Rattle.hol_just.specs.Answering.{AnswersCode}
use Rattle.hol_just.specs.ConversionTacs.{basic}
use Rattle.hol_tac.proofs.GivenTo.{all_beside, justified_beside}
use Rattle.hol_tac.proofs.rewriting.asm_rewrite_tac.Goals as goal

pub returns-clause-answer : goal.returns-clause-answer
returns-clause-answer c =
    let ths = c.deref.result.now in
    let is : args_value c.args.args.now ≡ Theorems ths = ap args_value c.in-Theorems.is ∙ ap (λ gs. Theorems gs) (sym c.deref.ensures.value) in
    subst (λ v. AnswersCode code.AsmRewriteTac v c.args.goal.now c.args.names.now c.args.turns c.rewritten.result) (sym is) (c.rewritten.ensures.answer (ths ++ (map assumed c.args.goal.now.assumptions ++ basic)) c.in_ok-rules.ensures.rules)

pub returns-clause-valid : goal.returns-clause-valid
returns-clause-valid c =
    let ths = c.deref.result.now in
    let more = (map assumed c.args.goal.now.assumptions ++ basic) in
    justified_beside (args_value c.args.args.now) c.args.goal.now c.in-Theorems.ths.items (ap args_value c.in-Theorems.is) more (ths ++ more) c.rewritten.result (all_beside c.args.goal.now)
    (ap (λ xs. xs ++ more) c.deref.ensures.value) (c.rewritten.ensures.valid (ths ++ more) c.in_ok-rules.ensures.given)
