use Rattle.std.proofs.Common.{◌≡◌, drop}
use Rattle.hol_resolve.specs.Readings.{is_large, first_with}
use Rattle.hol_resolve.specs.ReadingView.{attempts_value}
use Rattle.hol_resolve.proofs.attempts.first_large.Given as goal

abbrev pub invariant-loop-attempt : goal.invariant-loop-attempt
invariant-loop-attempt l = first_with is_large (attempts_value l.attempts) ≡ first_with is_large (attempts_value (drop l.attempt-index l.attempts))
