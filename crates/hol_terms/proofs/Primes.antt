-- Primes at the end of a name: cutting them off leaves its base, and adding one after another comes to an end.
use Rattle.std.proofs.Common.{◌≡◌, ◌≢◌, ℕ, zero, suc, ◌+◌, ◌-◌, ◌<◌, ◌≤◌, List, [], ◌∷◌, ◌++◌, length, length-append, take, drop, add-one, below_more, refl, ap, sym, ◌∙◌, subst, Bool, true, false, cond, ◌==◌, Option, Some, None, IfSome, arith, lit<}
use Rattle.std.proofs.lemmas.List.{take-append-drop}
use Rattle.std.proofs.Math.Seq.{drop-length}
use Rattle.std.proofs.lemmas.Str.Pattern.{drop_at_char}
use Rattle.std.proofs.lemmas.Bool.Decides.{nat_tests}
use Rattle.std.specs.Str.Pattern.{FindsCharSuffix, CutsSuffixes, IsFullyTrimmed, IsTrimEndMatches}
use Rattle.hol_terms.specs.Nameless.{with_letter, base_of}
use Rattle.hol_terms.specs.Primes.{with_primes, HasFewestPrimes}

base_prime : (front : List ℕ) → base_of (front ++ 39 ∷ []) ≡ base_of front
base_prime [] = refl
base_prime (y ∷ front) = ap (with_letter y) (base_prime front)

letter_last : (x : ℕ) → x ≢ 39 → with_letter x [] ≡ x ∷ []
letter_last x h = grind (arith, nat_tests)

-- a name that ends with no prime is its own base
base_same : (name : List ℕ) → ((front : List ℕ) → name ≢ front ++ 39 ∷ []) → base_of name ≡ name
base_same [] h = refl
base_same (x ∷ []) h = letter_last x (λ e. h [] (ap (λ y. y ∷ []) e))
base_same (x ∷ y ∷ name) h = ap (with_letter x) (base_same (y ∷ name) (λ front e. h (x ∷ front) (ap (λ ys. x ∷ ys) e)))

-- one prime cut off
cut_base : (m r : List ℕ) (n : ℕ) → FindsCharSuffix 39 m (Some n) → r ≡ take (length m - n) m → base_of m ≡ base_of r
cut_base m r n h e =
    let d : drop (length m - n) m ≡ 39 ∷ [] = drop_at_char 39 m (length m - n) (length m) h.1 (lit< tt) ∙ ap (λ xs. 39 ∷ xs) (drop-length m) in
    let whole : m ≡ r ++ 39 ∷ [] = sym (take-append-drop (length m - n) m) ∙ ap (λ xs. xs ++ drop (length m - n) m) (sym e) ∙ ap (λ xs. r ++ xs) d in
    ap base_of whole ∙ base_prime r

cut_all : (ns s r : List ℕ) → CutsSuffixes (FindsCharSuffix 39) s ns r → base_of s ≡ base_of r
cut_all [] s r e = ap base_of (sym e)
cut_all (n ∷ ns) s r h = cut_all ns s h.0 h.1 ∙ cut_base h.0 r n h.2 h.3

no_more : (r : List ℕ) → IsFullyTrimmed (FindsCharSuffix 39) r → base_of r ≡ r
unfolding lib.Utf8.encode
no_more r h = by h.0 h.1 h.2
  where
    by : (o : Option ℕ) → FindsCharSuffix 39 r o → IfSome o (λ n. n ≡ 0) → base_of r ≡ r
    by None f z = base_same r f
    by (Some n) f z = absurd (omega (arith, f.0))

pub trimmed_base : (s r : List ℕ) → IsTrimEndMatches (FindsCharSuffix 39) s r → r ≡ base_of s
trimmed_base s r h = sym (cut_all h.0.0 s r h.0.1 ∙ no_more r h.1)

-- a base name has no primes at its end
pub base_again : (a : List ℕ) → base_of (base_of a) ≡ base_of a
base_again [] = refl
base_again (x ∷ xs) = by (base_of xs) (base_again xs)
  where
    letter : (t : Bool) → (x == 39) ≡ t → base_of (cond t [] (x ∷ [])) ≡ cond t [] (x ∷ [])
    letter true e = refl
    letter false e = ap (λ b. cond b [] (x ∷ [])) e

    by : (b : List ℕ) → base_of b ≡ b → base_of (with_letter x b) ≡ with_letter x b
    by [] e = letter (x == 39) refl
    by (y ∷ ys) e = ap (with_letter x) e

-- primes change no base
pub base_with_primes : (k : ℕ) (a : List ℕ) → base_of (with_primes k a) ≡ base_of a
base_with_primes zero a = refl
base_with_primes (suc k) a = base_prime (with_primes k a) ∙ base_with_primes k a

-- ---- the search for a name that is not taken
-- c is the name a with so many primes more, and each with fewer is taken
abbrev pub IsTried : (List ℕ → Type 0) → List ℕ → List ℕ → Type 0
IsTried IsTaken a c = (k : ℕ) × (c ≡ with_primes k a) × ((j : ℕ) → j < k → IsTaken (with_primes j a))

pub tried_more : (IsTaken : List ℕ → Type 0) (a c d : List ℕ) → IsTried IsTaken a c → IsTaken c → d ≡ c ++ 39 ∷ [] → IsTried IsTaken a d
tried_more IsTaken a c d h o e = (h.0 + 1, rw add-one (e ∙ ap (λ x. x ++ 39 ∷ []) h.1), λ j l. below_more (λ i. IsTaken (with_primes i a)) h.0 h.2 (subst IsTaken h.1 o) j l)

-- no name that is taken is longer than m
pub primed_nearer : (m : ℕ) (a b : List ℕ) → length a ≤ m → b ≡ a ++ 39 ∷ [] → m + 1 - length b < m + 1 - length a
primed_nearer m a b h e =
    let p : length b ≡ length a + 1 = ap length e ∙ length-append a (39 ∷ []) ∙ omega arith in
    omega arith

-- the same name by another test that says the same
pub fewest_other : (IsTaken IsOther : List ℕ → Type 0) (a r : List ℕ) → ((b : List ℕ) → IsTaken b → IsOther b) → ((b : List ℕ) → IsOther b → IsTaken b) → HasFewestPrimes IsTaken a r → HasFewestPrimes IsOther a r
fewest_other IsTaken IsOther a r f g h = record { primes = h.primes; is = h.is; fresh = λ o. h.fresh (g r o); least = λ j l. f (with_primes j a) (h.least j l) }

-- ---- how long a name with primes is

pub primes_length : (k : ℕ) (a : List ℕ) → length (with_primes k a) ≡ length a + k
primes_length zero a = omega arith
primes_length (suc k) a = let p = primes_length k a in let q = length-append (with_primes k a) (39 ∷ []) in omega (arith, p, q)
