use Rattle.std.proofs.Common.{refl, Ok, Err, map, string_bytes, String, Global}
use Rattle.std.proofs.lemmas.Result.{IfOk-weaker}
use Rattle.hol_wire.specs.Replies.{Refused, ByDocuments, Lists}
use Rattle.hol_session.proofs.Machines.{told}
use Rattle.hol_session.proofs.answering.listed.Goals as goal

pub returns-in-Ok : goal.returns-in-Ok
returns-in-Ok g c = IfOk-weaker c.lists.result _ _ (λ reply says.
    (Lists (map (λ (t : String Global). string_bytes t) c.in-Ok.texts.items), says, (Ok (map (λ (t : String Global). string_bytes t) c.in-Ok.texts.items), c.in-Ok.ensures.ok, c.in-Ok.ensures.proved, refl, refl))) c.lists.ensures

pub returns-in-Err : goal.returns-in-Err
returns-in-Err g c = IfOk-weaker c.refusal_reply.result _ _ (λ reply (refusal, is, says).
    (Refused (ByDocuments refusal), says, (Err refusal, told _ c.in-Err.error refusal is c.in-Err.ensures.refused, tt, refl, refl))) c.refusal_reply.ensures.refused
