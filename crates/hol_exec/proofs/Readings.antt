-- A term as it is written has one reading.
use Rattle.std.specs.Prelude.{◌≡◌, Bool, true, false, [], refl}
use Rattle.std.proofs.Common.{ap, sym, ◌∙◌}
use Rattle.hol_terms.specs.Nameless.{Nameless}
use Rattle.hol_notation_terms.specs.Text.{TermText}
use Rattle.hol_typing.specs.Raw.{RawTree}
use Rattle.hol_infer.specs.Resolving.{raw_of, term_has_arities}
use Rattle.hol_infer.proofs.Unique.{one_reading as one_term, reading_typable, reading_not_large, large_typable}
use Rattle.hol_resolve.specs.Signature.{SignatureValue}
use Rattle.hol_resolve.specs.Reading.{ReadingValue, WrongArity, NoTyping, LargeReading, ReadsAs, IsReadAs, IsTermReadAs}

both_ways : (b : Bool) → b ≡ true → b ≡ false → ⊥
both_ways b p q = let e : true ≡ false = sym p ∙ q in absurd (cc)

pub one_read : (arities : Bool) (raw : RawTree) (a b : ReadingValue Nameless) → IsReadAs arities raw a → IsReadAs arities raw b → a ≡ b
one_read arities raw WrongArity WrongArity p q = refl
one_read arities raw WrongArity NoTyping p q = absurd (both_ways _ q.0 p)
one_read arities raw WrongArity LargeReading p q = absurd (both_ways _ q.0 p)
one_read arities raw WrongArity (ReadsAs t) p q = absurd (both_ways _ q.0 p)
one_read arities raw NoTyping WrongArity p q = absurd (both_ways _ p.0 q)
one_read arities raw NoTyping NoTyping p q = refl
one_read arities raw NoTyping LargeReading p q = absurd (large_typable raw p.1 q.1)
one_read arities raw NoTyping (ReadsAs t) p q = absurd (reading_typable raw t q.1 p.1)
one_read arities raw LargeReading WrongArity p q = absurd (both_ways _ p.0 q)
one_read arities raw LargeReading NoTyping p q = absurd (large_typable raw q.1 p.1)
one_read arities raw LargeReading LargeReading p q = refl
one_read arities raw LargeReading (ReadsAs t) p q = absurd (reading_not_large raw t q.1 q.2 p.1)
one_read arities raw (ReadsAs s) WrongArity p q = absurd (both_ways _ p.0 q)
one_read arities raw (ReadsAs s) NoTyping p q = absurd (reading_typable raw s p.1 q.1)
one_read arities raw (ReadsAs s) LargeReading p q = absurd (reading_not_large raw s p.1 p.2 q.1)
one_read arities raw (ReadsAs s) (ReadsAs t) p q = ap ReadsAs (one_term raw s t p.1 q.1)

pub one_reading : (over : SignatureValue) (t : TermText) (a b : ReadingValue Nameless) → IsTermReadAs over t a → IsTermReadAs over t b → a ≡ b
one_reading over t a b p q = one_read (term_has_arities over.types t) (raw_of over.types over.constants [] t) a b p q
