-- What all quotations of a command read as, or the first fault: of one kind the whole command is tested, from left to right, before the next:
-- a constructor's arity, then no typing, then a reading that is too large.
-- Source: this project.
use Rattle.std.specs.Prelude.{◌≡◌, ℕ, List, [], ◌∷◌, Bool, true, false, cond, nat_eq, Option, Some, None, Result, Ok, Err}
use Rattle.std.specs.Map.{lookup}
use Rattle.hol_types.specs.Tree.{TypeTree}
use Rattle.hol_terms.specs.Nameless.{Nameless}
use Rattle.hol_resolve.specs.declared.quotations.AnyQuotation.{AnyQuotation}
use Rattle.hol_resolve.specs.declared.quotations.AnyQuotation.TheVariants as quoted
use Rattle.hol_resolve.specs.declared.refusal.Refusal.{Refusal}
use Rattle.hol_resolve.specs.declared.refusal.Refusal.TheVariants as refusal
use Rattle.hol_resolve.specs.Signature.{SignatureValue}
use Rattle.hol_resolve.specs.Reading.{ReadingValue, WrongArity, NoTyping, LargeReading, ReadsAs, IsTermReadAs, type_reading}
use Rattle.hol_resolve.specs.Quotations.{place_of}

-- what a quotation reads as
pub data QuotedValue : Type 0 where
  ATerm : Nameless → QuotedValue
  AType : TypeTree → QuotedValue

-- the readings of a command, in text order, each with the place of its quotation
abbrev pub ReadingsValue : Type 0
ReadingsValue = List (ℕ × QuotedValue)

abbrev pub reading_map : {X Y : Type 0} → (X → Y) → ReadingValue X → ReadingValue Y
reading_map f WrongArity = WrongArity
reading_map f NoTyping = NoTyping
reading_map f LargeReading = LargeReading
reading_map f (ReadsAs x) = ReadsAs (f x)

-- each quotation is read by itself
abbrev pub IsQuotedAs : SignatureValue → AnyQuotation → ReadingValue QuotedValue → Type 0
IsQuotedAs over (quoted.Term t) reading = (own : ReadingValue Nameless) × IsTermReadAs over t.term own × (reading ≡ reading_map ATerm own)
IsQuotedAs over (quoted.Type a) reading = reading ≡ reading_map AType (type_reading over a.ty)

-- quotations with what they read as, faults included
abbrev pub Attempts : Type 0
Attempts = List (ℕ × ReadingValue QuotedValue)

abbrev pub AreAttempts : SignatureValue → List AnyQuotation → Attempts → Type 0
AreAttempts over [] [] = Unit {0}
AreAttempts over [] (t ∷ attempts) = ⊥
AreAttempts over (q ∷ quotations) [] = ⊥
AreAttempts over (q ∷ quotations) (t ∷ attempts) = (t.0 ≡ place_of q) × IsQuotedAs over q t.1 × AreAttempts over quotations attempts

-- ---- faults

abbrev pub has_wrong_arity : ReadingValue QuotedValue → Bool
has_wrong_arity WrongArity = true
has_wrong_arity NoTyping = false
has_wrong_arity LargeReading = false
has_wrong_arity (ReadsAs v) = false

abbrev pub has_no_typing : ReadingValue QuotedValue → Bool
has_no_typing WrongArity = false
has_no_typing NoTyping = true
has_no_typing LargeReading = false
has_no_typing (ReadsAs v) = false

abbrev pub is_large : ReadingValue QuotedValue → Bool
is_large WrongArity = false
is_large NoTyping = false
is_large LargeReading = true
is_large (ReadsAs v) = false

-- the place of the first quotation with the fault
abbrev pub first_with : (ReadingValue QuotedValue → Bool) → Attempts → Option ℕ
first_with has [] = None
first_with has (t ∷ attempts) = cond (has t.1) (Some t.0) (first_with has attempts)

-- what is read, where it is
abbrev pub read_at : ℕ → ReadingValue QuotedValue → ReadingsValue → ReadingsValue
read_at place WrongArity more = more
read_at place NoTyping more = more
read_at place LargeReading more = more
read_at place (ReadsAs v) more = (place, v) ∷ more

abbrev pub all_read : Attempts → ReadingsValue
all_read [] = []
all_read (t ∷ attempts) = read_at t.0 t.1 (all_read attempts)

abbrev pub unless_large : Option ℕ → Attempts → Result ReadingsValue Refusal
unless_large None attempts = Ok (all_read attempts)
unless_large (Some place) attempts = Err refusal.TooLarge

abbrev pub unless_untyped : Option ℕ → Attempts → Result ReadingsValue Refusal
unless_untyped None attempts = unless_large (first_with is_large attempts) attempts
unless_untyped (Some place) attempts = Err (refusal.NoTyping place)

abbrev pub unless_wrong : Option ℕ → Attempts → Result ReadingsValue Refusal
unless_wrong None attempts = unless_untyped (first_with has_no_typing attempts) attempts
unless_wrong (Some place) attempts = Err (refusal.WrongArity place)

-- the readings of all that is read, or the first fault
abbrev pub read_all : Attempts → Result ReadingsValue Refusal
read_all attempts = unless_wrong (first_with has_wrong_arity attempts) attempts

-- the quotations come to this, over what stands
abbrev pub AreRead : SignatureValue → List AnyQuotation → Result ReadingsValue Refusal → Type 0
AreRead over quotations result = (attempts : Attempts) × AreAttempts over quotations attempts × (result ≡ read_all attempts)

-- ---- what a quotation reads as, by its place

abbrev pub term_in : Option QuotedValue → Option Nameless
term_in None = None
term_in (Some (ATerm t)) = Some t
term_in (Some (AType a)) = None

abbrev pub type_in : Option QuotedValue → Option TypeTree
type_in None = None
type_in (Some (ATerm t)) = None
type_in (Some (AType a)) = Some a

abbrev pub term_at : ReadingsValue → ℕ → Option Nameless
term_at readings place = term_in (lookup (nat_eq place) readings)

abbrev pub type_at : ReadingsValue → ℕ → Option TypeTree
type_at readings place = type_in (lookup (nat_eq place) readings)
