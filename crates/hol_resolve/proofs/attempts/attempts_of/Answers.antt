use Rattle.hol_resolve.specs.SignatureView.{signature_value}
use Rattle.hol_resolve.specs.ReadingView.{attempts_value}
use Rattle.hol_resolve.proofs.Trying.{attempt_next, attempts_done}
use Rattle.hol_resolve.proofs.attempts.attempts_of.Goals as goal

pub loop-i-preserved : goal.loop-i-preserved
loop-i-preserved c =
    rw (c.in_ok-push.ensures.items, c.place.ensures) (attempt_next (signature_value c.args.over.now) c.args.quotations.now c.loop-i.i c.index-quotations-i.result c.loop-i.attempts.items c.in_ok-attempt.attempt
    c.loop-i-test.true c.index-quotations-i.is c.loop-i.invariant c.in_ok-attempt.ensures)

pub returns : goal.returns
returns c = attempts_done (signature_value c.args.over.now) c.args.quotations.now c.loop-i.i (attempts_value c.loop-i.attempts.items) c.loop-i-test.false c.loop-i.invariant
