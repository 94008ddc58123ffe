use Rattle.std.proofs.Common.{refl, Ok, Err}
use Rattle.std.proofs.lemmas.Result.{IfOk-weaker}
use Rattle.hol_exec.specs.ReportView.{report_value}
use Rattle.hol_wire.specs.Replies.{Refused, ByDocuments, Reports}
use Rattle.hol_session.proofs.Machines.{told}
use Rattle.hol_session.proofs.answering.reported.Goals as goal

pub returns-in-Ok : goal.returns-in-Ok
returns-in-Ok g c = IfOk-weaker c.reports.result _ _ (λ reply says.
    (Reports (report_value c.in-Ok.report), says, (Ok (report_value c.in-Ok.report), c.in-Ok.ensures.ok, c.in-Ok.ensures.proved, refl, refl))) c.reports.ensures

pub returns-in-Err : goal.returns-in-Err
returns-in-Err g c = IfOk-weaker c.refusal_reply.result _ _ (λ reply (refusal, is, says).
    (Refused (ByDocuments refusal), says, (Err refusal, told _ c.in-Err.error refusal is c.in-Err.ensures.refused, tt, refl, refl))) c.refusal_reply.ensures.refused
