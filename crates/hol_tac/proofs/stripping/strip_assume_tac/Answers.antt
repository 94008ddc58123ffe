use Rattle.std.specs.Prelude.{IfOk}
use Rattle.std.proofs.Common.{sym, subst}
use Rattle.hol_goal.specs.ArgumentsView.{args_value}
use Rattle.hol_goal.specs.declared.tac_args.TacArgs.{TacArgs}
use Rattle.hol_goal.specs.declared.tac_code.TacCode.TheVariants as code
use Rattle.hol_just.specs.Answering.{AnswersCode, IsJustified}
use Rattle.hol_tac.proofs.StripLaws.{assumes}
use Rattle.hol_tac.proofs.stripping.strip_assume_tac.Goals as goal

pub returns-clause-answer : goal.returns-clause-answer
returns-clause-answer c =
    subst (λ (a : TacArgs). AnswersCode code.StripAssumeTac (args_value a) c.args.goal.now c.args.names.now c.args.turns c.strip_theorem.result) (sym c.in-Theorem.is)
    (assumes c.in-Theorem.th c.args.goal.now c.args.names.now c.args.turns c.strip_theorem.result c.strip_theorem.ensures.answer)

pub returns-clause-valid : goal.returns-clause-valid
returns-clause-valid c = subst (λ (a : TacArgs). IfOk c.strip_theorem.result (λ tried. IsJustified (args_value a) c.args.goal.now tried.step)) (sym c.in-Theorem.is) c.strip_theorem.ensures.valid
