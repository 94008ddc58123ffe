-- What an answer of the program says of the outcome.
use Rattle.std.specs.Prelude.{◌≡◌, [], Result, Ok, Err}
use Rattle.hol_terms.specs.Named.{Named}
use Rattle.hol_terms.specs.Nameless.{nameless}
use Rattle.hol_conv.specs.Turns.{Outcome, finished, limit, too_large}
use Rattle.hol_conv.specs.declared.rewritten.Rewritten.{Rewritten}
use Rattle.hol_conv.specs.declared.error.ConvError.{ConvError}
use Rattle.hol_conv.specs.declared.error.ConvError.TheVariants.{Limit, TooLarge, Memory}

-- the answer is the outcome; want of memory says nothing of it
abbrev pub Tells : Result Rewritten ConvError → Outcome → Type 0
Tells (Ok r) o = o ≡ finished (nameless [] r.term) r.left
Tells (Err Limit) o = o ≡ limit
Tells (Err TooLarge) o = o ≡ too_large
Tells (Err Memory) o = Unit {0}

-- the trace is that of the term, and of what it became
abbrev pub IsTraceOf : Named → Rewritten → Type 0
IsTraceOf t r = (r.trace.old ≡ nameless [] t) × (r.trace.new ≡ nameless [] r.term)
