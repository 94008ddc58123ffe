use Rattle.std.proofs.Common.{take}
use Rattle.hol_resolve.specs.SignatureView.{signature_value}
use Rattle.hol_resolve.specs.Readings.{AreAttempts}
use Rattle.hol_resolve.specs.ReadingView.{attempts_value}
use Rattle.hol_resolve.proofs.attempts.attempts_of.Given as goal

abbrev pub invariant-loop-i : goal.invariant-loop-i
invariant-loop-i l = AreAttempts (signature_value l.over) (take l.i l.quotations) (attempts_value l.attempts.items)
