-- Which replies have one line.
use Rattle.std.specs.Prelude.{◌≡◌, ◌⊎◌, ◌<◌, ◌^◌}
use Rattle.hol_wire.specs.Replies.{ReplyValue, Refused, Done, Reports, Lists, RestsOn, Counts, Closed}

-- a number of commands that is told has 64 bits, as the program counts them
abbrev pub HasCount : ReplyValue → Type 0
HasCount (Refused refusal) = Unit {0}
HasCount Done = Unit {0}
HasCount (Reports report) = Unit {0}
HasCount (Lists texts) = Unit {0}
HasCount (RestsOn items) = Unit {0}
HasCount (Counts ran) = ran < 2 ^ 64
HasCount Closed = Unit {0}

-- one tells that an edit is made, the other that the session ends
abbrev pub AreDoneAndClosed : ReplyValue → ReplyValue → Type 0
AreDoneAndClosed a b = ((a ≡ Done) × (b ≡ Closed)) ⊎ ((a ≡ Closed) × (b ≡ Done))
