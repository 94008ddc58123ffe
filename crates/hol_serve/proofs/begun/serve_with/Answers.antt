use Rattle.std.proofs.Common.{◌∙◌, ap, [], map, get_or}
use Rattle.std.specs.Prelude.{string_bytes}
use Rattle.std.proofs.lemmas.Result.{on_ok_weaker}
use Rattle.hol_goal.specs.declared.tac_code.TacCode.TheVariants.{AllTac}
use Rattle.hol_serve.specs.Begun.{begun_by}
use Rattle.hol_serve.specs.BegunView.{row_of, names_differ}
use Rattle.hol_session.specs.Machine.{MayAnswer}
use Rattle.hol_session.specs.Session.{Finishes, StopsReading, StopsWriting}
use Rattle.hol_serve.proofs.Registering.{one_registered, same_place, names_of_rows, names_plain, rows_taken, begins, counted_begun}
use Rattle.hol_serve.proofs.begun.serve_with.Goals as goal

pub loop-code-preserved : goal.loop-code-preserved
loop-code-preserved g c =
    let code = get_or c.args.codes.now c.loop-code.code-index AllTac in
    one_registered c.loop-code.entries.items c.push.new.self.items c.new-in-loop-code-3.result c.args.codes.now c.loop-code.code-index code (string_bytes c.in_ok-name.name) c.loop-code-test.true
    (same_place c.args.codes.now c.loop-code.code-index AllTac code c.loop-code-test.true) c.in_ok-push.ensures.items c.new-in-loop-code-3.ensures (c.in_ok-name.ensures.ok ∙ c.name.ensures) c.loop-code.invariant

pub setup_of-requires-clause-differ : goal.setup_of-requires-clause-differ
setup_of-requires-clause-differ g c = ap names_differ (names_of_rows c.loop-code.entries.items) ∙ names_plain c.args.codes.now _ c.requires.differ (rows_taken c.args.codes.now c.loop-code.code-index _ c.loop-code-test.false c.loop-code.invariant)

pub returns-clause-ok : goal.returns-clause-ok
returns-clause-ok g c =
    on_ok_weaker c.run.result (λ h.
    begins (λ old new. Finishes MayAnswer old new (g.R.Read.remaining c.args.reader.now) (g.R.Read.remaining c.run.new.reader) (g.W.Write.contents c.args.writer.now) (g.W.Write.contents c.run.new.writer)) _ _ _
    (counted_begun _ (map row_of c.args.codes.now) c.args.turns c.args.cache _
    (c.in_ok-docs.ensures.documents ∙ ap (λ s. record { theories = []; setup = s; cache = c.args.cache }) c.in_ok-setup.ensures ∙ ap (λ rows. (begun_by rows c.args.turns c.args.cache).documents) (rows_taken c.args.codes.now c.loop-code.code-index _ c.loop-code-test.false c.loop-code.invariant))
    c.in_ok-docs.ensures.ran)
    h)
    c.run.ensures.ok

pub returns-clause-read_fault : goal.returns-clause-read_fault
returns-clause-read_fault g c e =
    let (stops, failed) = c.run.ensures.read_fault e in (
      begins (λ old new. StopsReading MayAnswer old new (g.R.Read.remaining c.args.reader.now) (g.R.Read.remaining c.run.new.reader) (g.W.Write.contents c.args.writer.now) (g.W.Write.contents c.run.new.writer)) _ _ _
          (counted_begun _ (map row_of c.args.codes.now) c.args.turns c.args.cache _
          (c.in_ok-docs.ensures.documents ∙ ap (λ s. record { theories = []; setup = s; cache = c.args.cache }) c.in_ok-setup.ensures ∙ ap (λ rows. (begun_by rows c.args.turns c.args.cache).documents) (rows_taken c.args.codes.now c.loop-code.code-index _ c.loop-code-test.false c.loop-code.invariant))
          c.in_ok-docs.ensures.ran)
          stops,
      failed,
    )

pub returns-clause-write_fault : goal.returns-clause-write_fault
returns-clause-write_fault g c e =
    let (stops, failed) = c.run.ensures.write_fault e in (
      begins (λ old new. StopsWriting MayAnswer old new (g.R.Read.remaining c.args.reader.now) (g.R.Read.remaining c.run.new.reader) (g.W.Write.contents c.args.writer.now) (g.W.Write.contents c.run.new.writer)) _ _ _
          (counted_begun _ (map row_of c.args.codes.now) c.args.turns c.args.cache _
          (c.in_ok-docs.ensures.documents ∙ ap (λ s. record { theories = []; setup = s; cache = c.args.cache }) c.in_ok-setup.ensures ∙ ap (λ rows. (begun_by rows c.args.turns c.args.cache).documents) (rows_taken c.args.codes.now c.loop-code.code-index _ c.loop-code-test.false c.loop-code.invariant))
          c.in_ok-docs.ensures.ran)
          stops,
      failed,
    )
