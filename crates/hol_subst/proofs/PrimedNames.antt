-- How many primes a name has after a base.
use Rattle.std.proofs.Common.{◌≡◌, ◌≢◌, ℕ, zero, suc, ◌+◌, List, [], ◌∷◌, ◌++◌, length, drop, get_or, refl, ap, sym, ◌∙◌, append_assoc, append-nil, inl, inr, Bool, true, false, ◌==◌, bytes_eq, None, MatchBool, Decides, arith}
use Rattle.std.proofs.lemmas.Bool.{false_from_ne_true}
use Rattle.std.proofs.lemmas.Bool.Decides.{eqb_tells, Decides-eqb}
use Rattle.std.proofs.lemmas.List.{append_cancel_left}
use Rattle.std.proofs.lemmas.Slice.Eq.{bytes_eq-Decides}
use Rattle.std.specs.Str.Pattern.{HasPrefixMatch, FindsTextPrefix}
use Rattle.hol_terms.specs.Primes.{with_primes}
use Rattle.hol_terms.proofs.Primes.{primes_length}

-- ---- primes alone

-- the primes stand after the base
pub primes_at_end : (k : ℕ) (a : List ℕ) → with_primes k a ≡ a ++ with_primes k []
primes_at_end zero a = sym (append-nil a)
primes_at_end (suc k) a = ap (λ x. x ++ 39 ∷ []) (primes_at_end k a) ∙ append_assoc a (with_primes k []) (39 ∷ [])

-- one of them may as well come first
pub prime_before : (k : ℕ) → with_primes (suc k) [] ≡ 39 ∷ with_primes k []
prime_before zero = refl
prime_before (suc k) = ap (λ x. x ++ 39 ∷ []) (prime_before k)

so_many : (k : ℕ) → length (with_primes k []) ≡ k
so_many k = let h = primes_length k [] in omega (arith, h)

-- ---- a text of which the first byte is a prime, and each other is as the one before it

all_as_first : (x : ℕ) (rest more : List ℕ) → x ≡ 39 → x ∷ rest ≡ rest ++ more → rest ≡ with_primes (length rest) []
all_as_first x [] more p e = refl
all_as_first x (y ∷ ys) more p e =
    let next : y ≡ 39 = ap (λ l. get_or l 0 0) (sym e) ∙ p in
    let ends : ys ≡ with_primes (length ys) [] = all_as_first y ys more next (ap (drop 1) e) in
    (λ i. next i ∷ ends i) ∙ sym (prime_before (length ys))

module _ (text rest : List ℕ) (is : text ≡ 39 ∷ rest) where
  begun : (more : List ℕ) → text ≡ rest ++ more → text ≡ with_primes (length text) []
  begun more e =
      let ends : rest ≡ with_primes (length rest) [] = all_as_first 39 rest more refl (sym is ∙ e) in
      is ∙ ap (λ l. 39 ∷ l) ends ∙ sym (prime_before (length rest)) ∙ ap (λ l. with_primes (length l) []) (sym is)

  begins : text ≡ with_primes (length text) [] → text ≡ rest ++ 39 ∷ []
  begins h =
      let whole : text ≡ with_primes (length rest) [] ++ 39 ∷ [] = h ∙ ap (λ l. with_primes (length l) []) is in
      let ends : rest ≡ with_primes (length rest) [] = ap (drop 1) (sym is ∙ whole ∙ prime_before (length rest)) in
      whole ∙ ap (λ l. l ++ 39 ∷ []) (sym ends)

  pub by_shift : (r : Bool) → MatchBool r (HasPrefixMatch (FindsTextPrefix rest) text) (FindsTextPrefix rest text None) → Decides r (text ≡ with_primes (length text) [])
  by_shift true m = (λ t. begun (drop m.0 text) m.1.1, λ h. refl)
  by_shift false m = (λ t. absurd (cc), λ h. absurd (m (39 ∷ []) (begins h)))

pub no_prime : (text : List ℕ) → ((rest : List ℕ) → text ≢ 39 ∷ rest) → (r : Bool) → r ≡ (length text == 0) → Decides r (text ≡ with_primes (length text) [])
no_prime [] f r e = (λ t. refl, λ h. e ∙ (Decides-eqb 0 0).1 refl)
no_prime (x ∷ xs) f r e = (λ t. absurd (let none : suc (length xs) ≡ 0 = (Decides-eqb (suc (length xs)) 0).0 (sym e ∙ t) in omega (arith, none)), λ h. absurd (f (with_primes (length xs) []) (h ∙ prime_before (length xs))))

-- ---- the name after the base

module _ (name base : List ℕ) where
  pub not_begun : ((rest : List ℕ) → name ≢ base ++ rest) → (k : ℕ) → name ≢ with_primes k base
  not_begun f k e = f (with_primes k []) (e ∙ primes_at_end k base)

  module _ (end : List ℕ) (n : ℕ) (whole : name ≡ base ++ drop n name) (is : end ≡ drop n name) where
    pub with_end : end ≡ with_primes (length end) [] → name ≡ with_primes (length end) base
    with_end e = whole ∙ ap (λ a. base ++ a) (sym is ∙ e) ∙ sym (primes_at_end (length end) base)

    pub end_of : (k : ℕ) → name ≡ with_primes k base → end ≡ with_primes (length end) []
    end_of k e =
        let same : end ≡ with_primes k [] = is ∙ append_cancel_left base (drop n name) (with_primes k []) (sym whole ∙ e ∙ primes_at_end k base) in
        same ∙ ap (λ m. with_primes m []) (sym (ap length same ∙ so_many k))

-- ---- so many primes and no other number

same_primes : (k j : ℕ) (a : List ℕ) → with_primes k a ≡ with_primes j a → k ≡ j
same_primes k j a e = let h : length (with_primes k a) ≡ length (with_primes j a) = ap length e in omega (arith, h, primes_length k a, primes_length j a)

pub primes_tell : (name a : List ℕ) (j k : ℕ) → name ≡ with_primes j a → (k == j) ≡ bytes_eq name (with_primes k a)
primes_tell name a j k is =
    elim (eqb_tells k j) [
      | inl same ↦ same.0 ∙ sym ((bytes_eq-Decides name (with_primes k a)).1 (is ∙ ap (λ n. with_primes n a) (sym same.1)))
      | inr other ↦ other.0 ∙ sym (false_from_ne_true (bytes_eq name (with_primes k a)) (λ e. other.1 (same_primes k j a (sym ((bytes_eq-Decides name (with_primes k a)).0 e) ∙ is))))
    ]
