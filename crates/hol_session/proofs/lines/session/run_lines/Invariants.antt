use Rattle.std.proofs.Common.{◌≡◌, length}
use Rattle.hol_session.specs.Session.{CountsUp}
use Rattle.hol_session.proofs.Runs.{Runs}
use Rattle.hol_session.proofs.lines.session.run_lines.Given as goal

abbrev pub invariant-loop : goal.invariant-loop
invariant-loop g l = record {
  room : length l.chunk ≡ 4096;
  runs : Runs g.S.Service.may_answer (g.R.Read.remaining l.fn.reader) (g.R.Read.remaining l.reader)
      (g.W.Write.contents l.fn.writer) (g.W.Write.contents l.writer) l.fn.state l.state l.line.kept.items l.line.overlong;
  counts : CountsUp l.counter (g.R.Source.reads l.fn.reader) (g.R.Source.reads l.reader);
  reads : g.R.Source.has_failed l.reader → g.R.Source.has_failed l.fn.reader;
  writes : g.W.Sink.has_failed l.writer → g.W.Sink.has_failed l.fn.writer;
}
