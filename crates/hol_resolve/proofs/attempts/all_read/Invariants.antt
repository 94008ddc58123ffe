use Rattle.std.proofs.Common.{◌≡◌, ◌++◌, drop}
use Rattle.hol_resolve.specs.Readings.{all_read}
use Rattle.hol_resolve.specs.ReadingView.{attempts_value, list_value}
use Rattle.hol_resolve.proofs.attempts.all_read.Given as goal

abbrev pub invariant-loop-attempt : goal.invariant-loop-attempt
invariant-loop-attempt l =
    all_read (attempts_value l.attempts) ≡ list_value l.readings.items ++ all_read (attempts_value (drop l.attempt-index l.attempts))
