-- What a private answer of the program says of the outcome.
use Rattle.std.specs.Prelude.{◌≡◌, [], Result, Ok, Err, Box}
use Rattle.std.specs.Global.{Global}
use Rattle.hol_terms.specs.Nameless.{nameless}
use Rattle.hol_conv.specs.Turns.{Outcome, finished, limit, too_large}
use Rattle.hol_conv.specs.declared.ended.Ended.{Ended}
use Rattle.hol_conv.specs.declared.error.ConvError.{ConvError}
use Rattle.hol_conv.specs.declared.error.ConvError.TheVariants.{Limit, TooLarge, Memory}

-- the answer is the outcome; want of memory says nothing of it
abbrev pub TellsEnd : Result Ended ConvError → Outcome → Type 0
TellsEnd (Ok r) o = o ≡ finished (nameless [] r.term) r.left
TellsEnd (Err Limit) o = o ≡ limit
TellsEnd (Err TooLarge) o = o ≡ too_large
TellsEnd (Err Memory) o = Unit {0}

-- the same of one in a box
abbrev pub TellsBoxed : Result (Box Ended Global) ConvError → Outcome → Type 0
TellsBoxed (Ok b) o = TellsEnd (Ok b.value) o
TellsBoxed (Err e) o = TellsEnd (Err e) o
