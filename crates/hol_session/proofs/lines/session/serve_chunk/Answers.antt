use Rattle.std.proofs.Common.{arith}
use Rattle.hol_session.proofs.Chunks.{starts, other_byte, line_ends, line_closes, line_fails}
use Rattle.hol_session.proofs.Sessions.{on_err}
use Rattle.hol_session.proofs.lines.session.serve_chunk.Goals as goal

pub loop-byte-init : goal.loop-byte-init
loop-byte-init g c = record { goes_on = λ begun h. starts g.S.Service.may_answer _ _ _ _ begun h; fails = λ failed. failed }

pub loop-byte-preserved-then-byte-ne-NEWLINE : goal.loop-byte-preserved-then-byte-ne-NEWLINE
loop-byte-preserved-then-byte-ne-NEWLINE g c = record {
  goes_on = λ begun h. other_byte g.S.Service.may_answer (g.W.Write.contents c.args.writer.now) (g.W.Write.contents c.loop-byte.writer) c.args.state.now c.loop-byte.state
      _ _ _ _ begun c.args.chunk.now c.loop-byte.byte-index (omega arith) c.if-byte-ne-NEWLINE.true (c.loop-byte.invariant.goes_on begun h) c.push.ensures;
  fails = c.loop-byte.invariant.fails;
}

pub loop-byte-preserved : goal.loop-byte-preserved
loop-byte-preserved g c = record {
  goes_on = λ begun h. line_ends g.S.Service.may_answer (g.W.Write.contents c.args.writer.now) (g.W.Write.contents c.loop-byte.writer) _ c.args.state.now c.loop-byte.state c.serve_line.new.state
      c.loop-byte.line.kept.items _ c.loop-byte.line.overlong _ begun c.args.chunk.now c.loop-byte.byte-index (omega arith) c.if-byte-ne-NEWLINE.false (c.loop-byte.invariant.goes_on begun h)
      (rw c.if-closes.false at c.in_ok-closes.ensures.answered) c.clear.ensures;
  fails = λ failed. c.loop-byte.invariant.fails (c.in_ok-closes.ensures.only failed);
}

pub returns-then-closes-clause-closed : goal.returns-then-closes-clause-closed
returns-then-closes-clause-closed g c e begun h =
    line_closes g.S.Service.may_answer (g.W.Write.contents c.args.writer.now) (g.W.Write.contents c.loop-byte.writer) _ c.args.state.now c.loop-byte.state c.serve_line.new.state
    c.loop-byte.line.kept.items c.loop-byte.line.overlong begun c.args.chunk.now c.loop-byte.byte-index (omega arith) c.if-byte-ne-NEWLINE.false (c.loop-byte.invariant.goes_on begun h)
    (rw c.if-closes.true at c.in_ok-closes.ensures.answered)

pub returns-in_err-closes-clause-in_part : goal.returns-in_err-closes-clause-in_part
returns-in_err-closes-clause-in_part g c = on_err c.from_residual.result _ (λ begun h.
    line_fails g.S.Service.may_answer (g.W.Write.contents c.args.writer.now) (g.W.Write.contents c.loop-byte.writer) _ c.args.state.now c.loop-byte.state c.serve_line.new.state
    c.loop-byte.line.kept.items c.loop-byte.line.overlong begun c.args.chunk.now c.loop-byte.byte-index (omega arith) c.if-byte-ne-NEWLINE.false (c.loop-byte.invariant.goes_on begun h)
    c.in_err-closes.ensures.in_part)

pub returns-then-closes-clause-only : goal.returns-then-closes-clause-only
returns-then-closes-clause-only g c failed = c.loop-byte.invariant.fails (c.in_ok-closes.ensures.only failed)

pub returns-clause-only : goal.returns-clause-only
returns-clause-only g c failed = c.loop-byte.invariant.fails failed
