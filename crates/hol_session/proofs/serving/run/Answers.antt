use Rattle.std.proofs.Common.{ap}
use Rattle.std.proofs.lemmas.Result.{on_ok_weaker}
use Rattle.hol_session.specs.Machine.{MayAnswer}
use Rattle.hol_session.proofs.Machines.{seen}
use Rattle.hol_session.proofs.Sessions.{finishes_seen, stops_reading_seen, stops_writing_seen}
use Rattle.hol_session.proofs.serving.run.Goals as goal

pub returns-clause-ok : goal.returns-clause-ok
returns-clause-ok g c = on_ok_weaker c.run_lines.result (λ h. finishes_seen (seen g.D.Editable.value g.D.Editable.ran) MayAnswer _ _ _ _ _ _ h) c.run_lines.ensures.ok

pub returns-clause-read_fault : goal.returns-clause-read_fault
returns-clause-read_fault g c e =
    let (stops, why) = c.run_lines.ensures.read_fault e in (stops_reading_seen (seen g.D.Editable.value g.D.Editable.ran) MayAnswer c.args.docs.now c.run_lines.new.state _ _ _ _ stops, why)

pub returns-clause-write_fault : goal.returns-clause-write_fault
returns-clause-write_fault g c e =
    let (stops, why) = c.run_lines.ensures.write_fault e in (stops_writing_seen (seen g.D.Editable.value g.D.Editable.ran) MayAnswer c.args.docs.now c.run_lines.new.state _ _ _ _ stops, why)

pub returns-clause-memory : goal.returns-clause-memory
returns-clause-memory g c e =
    let (reader, writer, docs) = c.run_lines.ensures.memory e in (reader, writer, ap g.D.Editable.value docs, ap g.D.Editable.ran docs)
