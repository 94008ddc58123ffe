use Rattle.std.proofs.lemmas.Result.{IfOk-weaker}
use Rattle.hol_exec.specs.ReportView.{report_value}
use Rattle.hol_document.proofs.Edited.{value_there}
use Rattle.hol_document.proofs.Reported.{report_stands, within_theory}
use Rattle.hol_document.proofs.asked.report.Goals as goal

pub returns : goal.returns
returns c =
    let within = within_theory c.args.theories.now c.args.i c.args.at c.at-theory.result.now c.at-theory.ensures c.requires.command in
    let is = value_there (λ x. x.value) c.slots.result.now c.at-theory.result.now.slots c.args.at c.index-slots-at.result c.slots.ensures within c.index-slots-at.is in
    IfOk-weaker c.report_with.result _ _ (λ report says.
    report_stands c.args.theories.now c.args.i c.args.at c.at-theory.result.now c.index-slots-at.result.value c.goals_of.result.now (report_value report) c.at-theory.ensures c.requires.command is
    (rw (c.opened.ensures, c.deref-5.ensures) at c.goals_of.ensures) (rw (c.deref-2.ensures, c.outcome.ensures, c.deref.ensures) at c.promise.ensures) (rw (c.deref-4.ensures, c.outcome-2.ensures, c.deref-3.ensures) at says)) c.report_with.ensures
