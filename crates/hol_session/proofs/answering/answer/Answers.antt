use Rattle.std.proofs.Common.{sym, ◌∙◌, inl, inr, arith}
use Rattle.hol_wire.specs.Views.{request_text}
use Rattle.hol_session.proofs.Machines.{empty_is_no_json, line_no_json, line_no_memory, line_shape, line_served, some_line}
use Rattle.hol_session.proofs.answering.answer.Goals as goal

pub returns-in-Err : goal.returns-in-Err
returns-in-Err g c = elim c.unread_reply.ensures [
  | inl (memory, says) ↦ line_no_memory _ _ c.args.line.now c.unread_reply.result c.requires (some_line c.args.line.now (c.in-Err.ensures.memory memory)) c.forget_for.ensures.documents (omega (arith, c.forget_for.ensures.ran)) says
  | inr (other, says) ↦ rw (c.forget_for.ensures.documents, c.forget_for.ensures.ran) (line_no_json _ c.args.line.now c.unread_reply.result c.requires (c.in-Err.ensures.err other) says)
]

pub returns-in_default : goal.returns-in_default
returns-in_default g c =
    line_shape _ c.args.line.now _ c.shape.result c.requires c.in-Ok.ensures.ok (sym c.in_default.ensures) c.shape.ensures

pub returns-in-Ok-served : goal.returns-in-Ok-served
returns-in-Ok-served g c =
    line_served _ _ c.args.line.now _ (request_text c.in-Some.request) c.in-Ok-served.reply c.requires c.in-Ok.ensures.ok (sym c.in-Some.ensures) c.in-Ok-served.ensures.ok

pub returns : goal.returns
returns g c =
    line_no_memory _ _ c.args.line.now c.memory.result c.requires (empty_is_no_json _ _ c.in-Ok.ensures.ok.1) (c.forget.ensures.documents ∙ c.in-Err-served.ensures.kept)
    (omega (arith, c.forget.ensures.ran, c.in-Err-served.ensures.rises)) c.memory.ensures
