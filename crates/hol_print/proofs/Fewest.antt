-- The search for a shown name finds one: each prime leaves fewer names that are long enough to be met.
use Rattle.std.proofs.Common.{◌≡◌, ℕ, ◌+◌, ◌<◌, ◌≤◌, zero, suc, List, [], ◌∷◌, ◌++◌, length, length-append, codes, Bool, true, false, cond, ◌||◌, leb, bytes_eq, refl, ap, sym, ◌∙◌, arith}
use Rattle.std.proofs.lemmas.Bool.{both_ways, false_from_ne_true, leb-true, le-leb}
use Rattle.std.proofs.lemmas.Slice.Eq.{bytes_eq-Decides}
use Rattle.hol_types.specs.Names.{is_among}
use Rattle.hol_terms.specs.Nameless.{Nameless}
use Rattle.hol_terms.specs.Primes.{with_primes, HasFewestPrimes}
use Rattle.hol_print.proofs.Primes.{with_end}
use Rattle.hol_print.specs.ShowTerm.{names_in, primed, shown_name}

-- how many of the names have m bytes or more
abbrev long_names : List (List ℕ) → ℕ → ℕ
long_names [] m = 0
long_names (b ∷ names) m = cond (leb m (length b)) 1 0 + long_names names m

step : (p q : Bool) (x y : ℕ) → (p ≡ true → q ≡ true) → x ≤ y → cond p 1 0 + x ≤ cond q 1 0 + y
step true true x y f h = omega arith
step true false x y f h = let z : false ≡ true = f refl in absurd (cc)
step false true x y f h = omega arith
step false false x y f h = omega arith

longer : (m n : ℕ) → leb (m + 1) n ≡ true → leb m n ≡ true
longer m n e = let h : m + 1 ≤ n = leb-true (m + 1) n e in le-leb m n (omega arith)

fewer : (names : List (List ℕ)) (m : ℕ) → long_names names (m + 1) ≤ long_names names m
fewer [] m = omega arith
fewer (b ∷ names) m = step (leb (m + 1) (length b)) (leb m (length b)) (long_names names (m + 1)) (long_names names m) (longer m (length b)) (fewer names m)

at_most : (names : List (List ℕ)) (m : ℕ) → long_names names m ≤ length names
at_most [] m = omega arith
at_most (b ∷ names) m = by (leb m (length b)) (at_most names m)
  where
    by : (p : Bool) → long_names names m ≤ length names → cond p 1 0 + long_names names m ≤ length (b ∷ names)
    by true h = omega arith
    by false h = omega arith

strict : (p q : Bool) (x y : ℕ) → (p ≡ true → q ≡ true) → x < y → cond p 1 0 + x < cond q 1 0 + y
strict true true x y f h = omega arith
strict true false x y f h = let z : false ≡ true = f refl in absurd (cc)
strict false true x y f h = omega arith
strict false false x y f h = omega arith

met : (p q : Bool) (x y : ℕ) → p ≡ false → q ≡ true → x ≤ y → cond p 1 0 + x < cond q 1 0 + y
met p q x y e f h = rw (e, f) (omega arith)

one_less : (names : List (List ℕ)) (a : List ℕ) → is_among names a ≡ true → long_names names (length a + 1) < long_names names (length a)
one_less [] a e = absurd (cc)
one_less (b ∷ names) a e = by (bytes_eq a b) refl e (one_less names a)
  where
    by : (p : Bool) → bytes_eq a b ≡ p → (p || is_among names a) ≡ true → (is_among names a ≡ true → long_names names (length a + 1) < long_names names (length a)) → long_names (b ∷ names) (length a + 1) < long_names (b ∷ names) (length a)
    by true q r ih =
        let same : length a ≡ length b = ap length ((bytes_eq-Decides a b).0 q) in
        met (leb (length a + 1) (length b)) (leb (length a) (length b)) (long_names names (length a + 1)) (long_names names (length a))
        (false_from_ne_true (leb (length a + 1) (length b)) (λ z. let h : length a + 1 ≤ length b = leb-true (length a + 1) (length b) z in omega arith))
        (le-leb (length a) (length b) (omega arith))
        (fewer names (length a))
    by false q r ih = strict (leb (length a + 1) (length b)) (leb (length a) (length b)) (long_names names (length a + 1)) (long_names names (length a)) (longer (length a) (length b)) (ih r)

least_more : (names : List (List ℕ)) (a : List ℕ) (k : ℕ) → is_among names a ≡ true → ((j : ℕ) → j < k → is_among names (with_primes j (a ++ codes "'")) ≡ true) → (j : ℕ) → j < suc k → is_among names (with_primes j a) ≡ true
least_more names a k e f zero l = e
least_more names a k e f (suc j) l = ap (is_among names) (sym (with_end j a)) ∙ f j (omega arith)

none_met : (names : List (List ℕ)) (a : List ℕ) → long_names names (length a) ≤ 0 → is_among names a ≡ false
none_met names a h = false_from_ne_true (is_among names a) (λ e. let k : long_names names (length a + 1) < long_names names (length a) = one_less names a e in omega arith)

still_fewer : (names : List (List ℕ)) (a : List ℕ) (n : ℕ) → is_among names a ≡ true → long_names names (length a) ≤ suc n → long_names names (length (a ++ codes "'")) ≤ n
still_fewer names a n e h =
    let k : long_names names (length a + 1) < long_names names (length a) = one_less names a e in
    let l : length (a ++ codes "'") ≡ length a + 1 = length-append a (codes "'") in
    rw l (omega arith)

-- r is the base with the fewest primes that make it none of the names
abbrev IsFewest : List (List ℕ) → List ℕ → List ℕ → Type 0
IsFewest names a r = HasFewestPrimes (λ c. is_among names c ≡ true) a r

primed_fewest : (n : ℕ) (names : List (List ℕ)) (a : List ℕ) → long_names names (length a) ≤ n → IsFewest names a (primed n names a)
primed_fewest zero names a h = record { primes = 0; is = refl; fresh = both_ways (is_among names a) (none_met names a h); least = λ j l. absurd (omega arith) }
primed_fewest (suc n) names a h = by (is_among names a) refl (primed_fewest n names (a ++ codes "'"))
  where
    by : (p : Bool) → is_among names a ≡ p → (long_names names (length (a ++ codes "'")) ≤ n → IsFewest names (a ++ codes "'") (primed n names (a ++ codes "'"))) → IsFewest names a (primed (suc n) names a)
    by true e ih =
        let r : IsFewest names (a ++ codes "'") (primed n names (a ++ codes "'")) = ih (still_fewer names a n e h) in
        record { primes = suc r.primes; is = rw e (r.is ∙ with_end r.primes a); fresh = rw e r.fresh; least = least_more names a r.primes e r.least }
    by false e ih = record { primes = 0; is = rw e refl; fresh = rw e (both_ways (is_among names a) e); least = λ j l. absurd (omega arith) }

pub shown_fewest : (env : List (List ℕ)) (a : List ℕ) (b : Nameless) → HasFewestPrimes (λ c. is_among (names_in 1 env b) c ≡ true) a (shown_name env a b)
shown_fewest env a b = primed_fewest (length (names_in 1 env b)) (names_in 1 env b) a (at_most (names_in 1 env b) (length a))
