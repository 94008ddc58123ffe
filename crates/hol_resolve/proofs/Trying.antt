-- Quotations with what they read as: one more, and one that is written as one of them.
use Rattle.std.specs.Prelude.{◌≡◌, ◌<◌, ◌+◌, ◌≤◌, ℕ, zero, suc, List, [], ◌∷◌, ◌++◌, length, map, take, Option, Some, None, get_or, IfSome, refl}
use Rattle.std.specs.List.{slice_get}
use Rattle.std.proofs.Common.{ap, sym, ◌∙◌, subst, arith}
use Rattle.std.proofs.Math.Seq.{take-suc}
use Rattle.std.proofs.lemmas.List.{map-append, take_all}
use Rattle.hol_resolve.specs.declared.quotations.AnyQuotation.{AnyQuotation}
use Rattle.hol_resolve.specs.declared.quotations.AnyQuotation.TheVariants as quoted
use Rattle.hol_resolve.specs.declared.attempts.Attempt.{Attempt}
use Rattle.hol_resolve.specs.Quotations.{place_of, AreWrittenAlike}
use Rattle.hol_resolve.specs.Reading.{ReadingValue, IsTermReadAs, type_reading}
use Rattle.hol_resolve.specs.Readings.{QuotedValue, AType, Attempts, AreAttempts, IsQuotedAs, reading_map}
use Rattle.hol_resolve.specs.ReadingView.{attempt_value, attempts_value}
use Rattle.hol_resolve.specs.Signature.{SignatureValue}

one_more : (over : SignatureValue) (qs : List AnyQuotation) (ts : Attempts) (q : AnyQuotation) (r : ReadingValue QuotedValue) → AreAttempts over qs ts → IsQuotedAs over q r
    → AreAttempts over (qs ++ q ∷ []) (ts ++ (place_of q, r) ∷ [])
one_more over [] [] q r are is = (refl, is, tt)
one_more over [] (t ∷ ts) q r are is = absurd are
one_more over (p ∷ qs) [] q r are is = absurd are
one_more over (p ∷ qs) (t ∷ ts) q r are is = (are.0, are.1, one_more over qs ts q r are.2 is)

-- the next one, at its place
pub attempt_next : (over : SignatureValue) (all : List AnyQuotation) (i : ℕ) (q : AnyQuotation) (done : List (ℕ × Attempt)) (a : Attempt) → i < length all → q ≡ get_or all i q
    → AreAttempts over (take i all) (attempts_value done) → IsQuotedAs over q (attempt_value a) → AreAttempts over (take (i + 1) all) (attempts_value (done ++ (place_of q, a) ∷ []))
attempt_next over all i q done a h e are is =
    let next : i + 1 ≡ suc i = omega arith in
    let taken : take (i + 1) all ≡ take i all ++ q ∷ [] = ap (λ n. take n all) next ∙ (take-suc all i q h ∙ ap (λ x. take i all ++ x ∷ []) (sym e)) in
    let valued = map-append (λ (t : ℕ × Attempt). (t.0, attempt_value t.1)) done ((place_of q, a) ∷ []) in
    subst (λ qs. AreAttempts over qs (attempts_value (done ++ (place_of q, a) ∷ []))) (sym taken)
    (subst (AreAttempts over (take i all ++ q ∷ [])) (sym valued) (one_more over (take i all) (attempts_value done) q (attempt_value a) are is))

-- all of them
pub attempts_done : (over : SignatureValue) (all : List AnyQuotation) (i : ℕ) (ts : Attempts) → length all ≤ i → AreAttempts over (take i all) ts → AreAttempts over all ts
attempts_done over all i ts h are = subst (λ qs. AreAttempts over qs ts) (take_all i all h) are

-- what one is read as, that one is which is written alike
written_alike : (over : SignatureValue) (p q : AnyQuotation) (r : ReadingValue QuotedValue) → AreWrittenAlike p q → IsQuotedAs over p r → IsQuotedAs over q r
written_alike over (quoted.Term t) (quoted.Term u) r e is = (is.0, subst (λ x. IsTermReadAs over x is.0) e is.1, is.2)
written_alike over (quoted.Term t) (quoted.Type b) r e is = absurd e
written_alike over (quoted.Type a) (quoted.Term u) r e is = absurd e
written_alike over (quoted.Type a) (quoted.Type b) r e is = is ∙ ap (λ x. reading_map AType (type_reading over x)) e

-- what stands at the place of one that is written alike
pub known_reads : (over : SignatureValue) (qs : List AnyQuotation) (done : List (ℕ × Attempt)) (at : ℕ) (known : ℕ × Attempt) (q : AnyQuotation) → AreAttempts over qs (attempts_value done)
    → IfSome (slice_get qs at) (λ p. AreWrittenAlike p q) → Some known ≡ slice_get done at → IsQuotedAs over q (attempt_value known.1)
known_reads over [] [] at known q are like e = absurd (cc)
known_reads over [] (d ∷ done) at known q are like e = absurd are
known_reads over (p ∷ qs) [] at known q are like e = absurd are
known_reads over (p ∷ qs) (d ∷ done) zero known q are like e = let same : known ≡ d = cc in subst (λ k. IsQuotedAs over q (attempt_value k.1)) (sym same) (written_alike over p q (attempt_value d.1) like are.1)
known_reads over (p ∷ qs) (d ∷ done) (suc at) known q are like e = known_reads over qs done at known q are.2 like e
