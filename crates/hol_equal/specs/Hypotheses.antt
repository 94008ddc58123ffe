-- What rules make of hypotheses: cited by laws.
use Rattle.std.specs.Prelude.{◌≡◌, true, Option, Some, None}
use Rattle.std.specs.FinSet as set
use Rattle.hol_kernel.specs.Sequent.{Hyps, Sequent}

-- nothing, or a sequent whose hypotheses are among these
abbrev pub StaysWithin : Hyps → Option Sequent → Type 0
StaysWithin hs None = Unit {0}
StaysWithin hs (Some s) = set.is_subset s.hyps hs ≡ true
