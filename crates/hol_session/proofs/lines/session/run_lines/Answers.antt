use Rattle.std.proofs.Common.{◌∙◌, ap, Ok, take, refl, arith}
use Rattle.hol_session.proofs.Runs.{run_starts, run_goes_on, run_closes, run_fails, run_ends, run_ends_in_part, counts_more}
use Rattle.hol_session.proofs.lines.session.run_lines.Goals as goal

pub loop-init : goal.loop-init
loop-init g c = record {
  room = refl;
  runs = run_starts g.S.Service.may_answer _ _ _ _ _ c.in-Ok.ensures;
  counts = λ room. omega arith;
  reads = λ failed. failed;
  writes = λ failed. failed;
}

pub loop-preserved : goal.loop-preserved
loop-preserved g c = record {
  room = c.read_some.auto.buffer ∙ c.loop.invariant.room;
  runs = run_goes_on g.S.Service.may_answer (g.R.Read.remaining c.args.reader.now) (g.R.Read.remaining c.loop.reader) _ (g.W.Write.contents c.args.writer.now) (g.W.Write.contents c.loop.writer) _
      c.args.state.now c.loop.state _ c.loop.line.kept.items _ c.loop.line.overlong _ (take c.in-Ok-read_some.count c.read_some.new.buffer)
      c.loop.invariant.runs c.in-Ok-read_some.ensures.bytes.0 (c.in-Ok-false.ensures.«open» (ap Ok c.in-Ok-false.field-0-test));
  counts = counts_more (g.R.Source.reads c.args.reader.now) (g.R.Source.reads c.loop.reader) _ c.loop.counter c.loop.invariant.counts c.read_some.ensures.counts;
  reads = λ failed. c.loop.invariant.reads (c.in-Ok-read_some.ensures.only failed);
  writes = λ failed. c.loop.invariant.writes (c.in-Ok-false.ensures.only failed);
}

pub returns-in-Ok-true-clause-ok : goal.returns-in-Ok-true-clause-ok
returns-in-Ok-true-clause-ok g c =
    run_closes g.S.Service.may_answer (g.R.Read.remaining c.args.reader.now) (g.R.Read.remaining c.loop.reader) _ (g.W.Write.contents c.args.writer.now) (g.W.Write.contents c.loop.writer) _
    c.args.state.now c.loop.state _ c.loop.line.kept.items c.loop.line.overlong (take c.in-Ok-read_some.count c.read_some.new.buffer)
    c.loop.invariant.runs c.in-Ok-read_some.ensures.bytes.0 (c.in-Ok-true.ensures.closed (ap Ok c.in-Ok-true.field-0-test))

pub returns-in-Err-clause-write_fault : goal.returns-in-Err-clause-write_fault
returns-in-Err-clause-write_fault g c e = (
  run_fails g.S.Service.may_answer (g.R.Read.remaining c.args.reader.now) (g.R.Read.remaining c.loop.reader) _ (g.W.Write.contents c.args.writer.now) (g.W.Write.contents c.loop.writer) _
      c.args.state.now c.loop.state _ c.loop.line.kept.items c.loop.line.overlong (take c.in-Ok-read_some.count c.read_some.new.buffer)
      c.loop.invariant.runs c.in-Ok-read_some.ensures.bytes.0 c.in-Err.ensures.in_part,
  c.in-Err.ensures.failed,
)

pub returns-in_default-serve_last-clause-write_fault : goal.returns-in_default-serve_last-clause-write_fault
returns-in_default-serve_last-clause-write_fault g c e = (
  run_ends_in_part g.S.Service.may_answer (g.R.Read.remaining c.args.reader.now) (g.R.Read.remaining c.loop.reader) _ (g.W.Write.contents c.args.writer.now) (g.W.Write.contents c.loop.writer) _
      c.args.state.now c.loop.state _ c.loop.line.kept.items c.loop.line.overlong
      c.loop.invariant.runs (rw c.if-count-eq0.true at c.in-Ok-read_some.ensures.bytes.0)
      (c.in-Ok-read_some.ensures.bytes.1 c.if-count-eq0.true (omega (arith, c.read_some.auto.buffer, c.loop.invariant.room)))
      c.in_default-serve_last.ensures.in_part,
  c.in_default-serve_last.ensures.failed,
)

pub returns-then-count-eq0-clause-ok : goal.returns-then-count-eq0-clause-ok
returns-then-count-eq0-clause-ok g c =
    run_ends g.S.Service.may_answer (g.R.Read.remaining c.args.reader.now) (g.R.Read.remaining c.loop.reader) _ (g.W.Write.contents c.args.writer.now) (g.W.Write.contents c.loop.writer) _
    c.args.state.now c.loop.state _ c.loop.line.kept.items c.loop.line.overlong
    c.loop.invariant.runs (rw c.if-count-eq0.true at c.in-Ok-read_some.ensures.bytes.0)
    (c.in-Ok-read_some.ensures.bytes.1 c.if-count-eq0.true (omega (arith, c.read_some.auto.buffer, c.loop.invariant.room)))
    c.in-Ok-serve_last.ensures.answered
