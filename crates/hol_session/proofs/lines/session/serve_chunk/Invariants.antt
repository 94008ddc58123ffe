use Rattle.std.proofs.Common.{ℕ, List, take}
use Rattle.hol_session.specs.Lines.{StandsFor}
use Rattle.hol_session.proofs.Chunks.{GoesOn}
use Rattle.hol_session.proofs.lines.session.serve_chunk.Given as goal

abbrev pub invariant-loop-byte : goal.invariant-loop-byte
invariant-loop-byte g l = record {
  goes_on : (begun : List ℕ) → StandsFor l.fn.line.kept.items l.fn.line.overlong begun
      → GoesOn g.S.Service.may_answer (g.W.Write.contents l.fn.writer) (g.W.Write.contents l.writer) l.fn.state l.state
      l.line.kept.items l.line.overlong begun (take l.byte-index l.chunk);
  fails : g.W.Sink.has_failed l.writer → g.W.Sink.has_failed l.fn.writer;
}
