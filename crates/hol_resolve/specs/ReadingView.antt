-- The readings that the program's values stand for.
use Rattle.std.specs.Prelude.{ℕ, List, [], map, Result, Ok, Err}
use Rattle.hol_terms.specs.Nameless.{Nameless, nameless}
use Rattle.hol_resolve.specs.declared.reading.Reading.{Reading}
use Rattle.hol_resolve.specs.declared.reading.Reading.TheVariants as code
use Rattle.hol_resolve.specs.declared.attempts.Attempt.{Attempt}
use Rattle.hol_resolve.specs.declared.attempts.Attempt.TheVariants as tried
use Rattle.hol_resolve.specs.declared.readings.Quoted.{Quoted}
use Rattle.hol_resolve.specs.declared.readings.Quoted.TheVariants as quoted
use Rattle.hol_resolve.specs.declared.readings.Readings.{Readings}
use Rattle.hol_resolve.specs.declared.refusal.Refusal.{Refusal}
use Rattle.hol_resolve.specs.Reading.{ReadingValue, WrongArity, NoTyping, LargeReading, ReadsAs}
use Rattle.hol_resolve.specs.Readings.{QuotedValue, ATerm, AType, ReadingsValue, Attempts}

abbrev pub reading_value : Reading → ReadingValue Nameless
reading_value code.WrongArity = WrongArity
reading_value code.NoTyping = NoTyping
reading_value code.LargeReading = LargeReading
reading_value (code.ReadsAs t) = ReadsAs (nameless [] t)

abbrev pub quoted_value : Quoted → QuotedValue
quoted_value (quoted.Term t) = ATerm (nameless [] t)
quoted_value (quoted.Type a) = AType a

abbrev pub attempt_value : Attempt → ReadingValue QuotedValue
attempt_value tried.WrongArity = WrongArity
attempt_value tried.NoTyping = NoTyping
attempt_value tried.LargeReading = LargeReading
attempt_value (tried.ReadsAs q) = ReadsAs (quoted_value q)

abbrev pub attempts_value : List (ℕ × Attempt) → Attempts
attempts_value attempts = map (λ t. (t.0, attempt_value t.1)) attempts

abbrev pub list_value : List (ℕ × Quoted) → ReadingsValue
list_value list = map (λ r. (r.0, quoted_value r.1)) list

abbrev pub readings_value : Readings → ReadingsValue
readings_value readings = list_value readings.list.items

abbrev pub readings_result : Result Readings Refusal → Result ReadingsValue Refusal
readings_result (Ok readings) = Ok (readings_value readings)
readings_result (Err r) = Err r
