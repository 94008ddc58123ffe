-- The name with the fewest primes that is not taken is the one that is searched for: no more primes are needed than names occur.
use Rattle.std.specs.Prelude.{◌≡◌, ℕ, zero, suc, ◌+◌, ◌<◌, ◌≤◌, Bool, true, false, cond, List, [], ◌∷◌, ◌++◌, length, codes, refl}
use Rattle.std.proofs.Common.{ap, sym, ◌∙◌, inl, inr, arith, length-append}
use Rattle.std.proofs.Math.Nat.{eq-or-lt_of_le}
use Rattle.std.proofs.lemmas.Slice.Eq.{bytes_eq-Decides}
use Rattle.std.proofs.lemmas.Bool.{false_from_ne_true, or_cases}
use Rattle.hol_terms.specs.Nameless.{Nameless, free, bound, fixed, app, lam}
use Rattle.hol_terms.specs.Primes.{with_primes}
use Rattle.hol_subst.specs.FreeName.{has_name, is_taken, IsFreeName}
use Rattle.hol_kernel.proofs.Members.{Among}
use Rattle.hol_match.specs.FreeNames.{count_names, count_all, untaken, free_name}
use Rattle.hol_terms.proofs.Primes.{primes_length}

-- ---- the names that occur

names : Nameless → List (List ℕ)
names (free v) = v.0 ∷ []
names (bound i) = []
names (fixed c s) = c ∷ []
names (app f x) = names f ++ names x
names (lam a s b) = names b

all_names : List Nameless → List (List ℕ)
all_names [] = []
all_names (n ∷ ns) = names n ++ all_names ns

names_counted : (n : Nameless) → length (names n) ≡ count_names n
unfolding names
names_counted (free v) = refl
names_counted (bound i) = refl
names_counted (fixed c s) = refl
names_counted (app f x) = length-append (names f) (names x) ∙ (λ i. names_counted f i + names_counted x i)
names_counted (lam a s b) = names_counted b

all_counted : (ns : List Nameless) → length (all_names ns) ≡ count_all ns
unfolding all_names
all_counted [] = refl
all_counted (n ∷ ns) = length-append (names n) (all_names ns) ∙ (λ i. names_counted n i + all_counted ns i)

among_left : (q : List ℕ) (xs ys : List (List ℕ)) → Among q xs → Among q (xs ++ ys)
among_left q [] ys h = absurd h
among_left q (x ∷ xs) ys (inl e) = inl e
among_left q (x ∷ xs) ys (inr h) = inr (among_left q xs ys h)

among_right : (q : List ℕ) (xs ys : List (List ℕ)) → Among q ys → Among q (xs ++ ys)
among_right q [] ys h = h
among_right q (x ∷ xs) ys h = inr (among_right q xs ys h)

name_among : (a : List ℕ) (n : Nameless) → has_name a n ≡ true → Among a (names n)
unfolding names
name_among a (free v) h = inl (sym ((bytes_eq-Decides v.0 a).0 h))
name_among a (bound i) h = absurd cc
name_among a (fixed c s) h = inl (sym ((bytes_eq-Decides c a).0 h))
name_among a (app f x) h =
    elim (or_cases (has_name a f) (has_name a x) h) [
      | inl e ↦ among_left a (names f) (names x) (name_among a f e)
      | inr e ↦ among_right a (names f) (names x) (name_among a x e)
    ]
name_among a (lam c s b) h = name_among a b h

taken_among : (a : List ℕ) (ns : List Nameless) → is_taken ns a ≡ true → Among a (all_names ns)
unfolding all_names
taken_among a [] h = absurd cc
taken_among a (n ∷ ns) h =
    elim (or_cases (has_name a n) (is_taken ns a) h) [
      | inl e ↦ among_left a (names n) (all_names ns) (name_among a n e)
      | inr e ↦ among_right a (names n) (all_names ns) (taken_among a ns e)
    ]

-- ---- so many names with different numbers of primes are not among fewer

record IsRemoved (q : List ℕ) (ns : List (List ℕ)) : Type 0 where
  rest : List (List ℕ)
  counted : length ns ≡ length rest + 1
  others : (p : List ℕ) → (p ≡ q → ⊥) → Among p ns → Among p rest

removed : (q : List ℕ) (ns : List (List ℕ)) → Among q ns → IsRemoved q ns
removed q [] h = absurd h
removed q (n ∷ ns) (inl e) = record { rest = ns; counted = omega arith; others = λ p apart h. elim h [ inl f ↦ absurd (apart (f ∙ sym e)) | inr k ↦ k ] }
removed q (n ∷ ns) (inr k) =
    let r = removed q ns k in
    record { rest = n ∷ r.rest; counted = omega (arith, r.counted); others = λ p apart h. elim h [ inl f ↦ inl f | inr m ↦ inr (r.others p apart m) ] }

apart_primes : (a : List ℕ) (j k : ℕ) → j < k → with_primes j a ≡ with_primes k a → ⊥
apart_primes a j k l e = let p = primes_length j a in let q = primes_length k a in let same : length (with_primes j a) ≡ length (with_primes k a) = ap length e in absurd (omega (arith, l, p, q, same))

few_primes : (a : List ℕ) (k : ℕ) (ns : List (List ℕ)) → ((j : ℕ) → j < k → Among (with_primes j a) ns) → k ≤ length ns
few_primes a zero ns each = omega arith
few_primes a (suc k) ns each =
    let r = removed (with_primes k a) ns (each k (omega arith)) in
    let h = few_primes a k r.rest (λ j l. r.others (with_primes j a) (apart_primes a j k l) (each j (omega (arith, l)))) in
    omega (arith, h, r.counted)

-- ---- the search finds one

-- with one prime more, where the names with fewer primes are taken
one_more :
    (avoid : List Nameless) (base : List ℕ) (j : ℕ) → ((i : ℕ) → i < j → is_taken avoid (with_primes i base) ≡ true) → is_taken avoid (with_primes j base) ≡ true → (i : ℕ) → i < suc j →
    is_taken avoid (with_primes i base) ≡ true
one_more avoid base j each h i l =
    elim (eq-or-lt_of_le {n = i} {m = j} (omega (arith, l))) [
      | inl e ↦ ap (λ m. is_taken avoid (with_primes m base)) e ∙ h
      | inr k ↦ each i k
    ]

search_from :
    (avoid : List Nameless) (base : List ℕ) (n j : ℕ) → ((i : ℕ) → i < j → is_taken avoid (with_primes i base) ≡ true) → length (all_names avoid) ≤ n + j → IsFreeName avoid base (untaken avoid n (with_primes j base))
search_from avoid base zero j each few = record {
  primes = j;
  is = refl;
  fresh = λ h.
      let counted = few_primes base (suc j) (all_names avoid) (λ i l. taken_among (with_primes i base) avoid (one_more avoid base j each h i l)) in
      absurd (omega (arith, few, counted));
  least = each;
}
search_from avoid base (suc n) j each few = by (is_taken avoid (with_primes j base)) refl (λ h. search_from avoid base n (suc j) (one_more avoid base j each h) (omega (arith, few)))
  where
    by :
        (b : Bool) → is_taken avoid (with_primes j base) ≡ b → (is_taken avoid (with_primes j base) ≡ true → IsFreeName avoid base (untaken avoid n (with_primes (suc j) base))) →
        IsFreeName avoid base (cond b (untaken avoid n (with_primes j base ++ codes "'")) (with_primes j base))
    by true h on = on h
    by false h on = record { primes = j; is = refl; fresh = λ k. absurd (cc); least = each }

pub found_free_name : (avoid : List Nameless) (base : List ℕ) → IsFreeName avoid base (free_name avoid base)
found_free_name avoid base =
    let counted = all_counted avoid in
    search_from avoid base (count_all avoid) 0 (λ i l. absurd (omega (arith, l))) (omega (arith, counted))

-- ---- the search

module _ (avoid : List Nameless) (base r : List ℕ) (h : IsFreeName avoid base r) where
  pub not_taken : is_taken avoid r ≡ false
  not_taken = false_from_ne_true (is_taken avoid r) h.fresh

  at_last : (j : ℕ) → j ≡ h.primes → with_primes j base ≡ r
  at_last j e = ap (λ k. with_primes k base) e ∙ sym h.is

  search : (i n j : ℕ) → j + i ≡ h.primes → i ≤ n → untaken avoid n (with_primes j base) ≡ r
  search zero zero j e l = at_last j (omega (arith, e))
  search zero (suc n) j e l =
      let last = at_last j (omega (arith, e)) in
      ap (λ b. cond b (untaken avoid n (with_primes j base ++ codes "'")) (with_primes j base)) (ap (is_taken avoid) last ∙ not_taken) ∙ last
  search (suc i) zero j e l = absurd (omega (arith, l))
  search (suc i) (suc n) j e l =
      ap (λ b. cond b (untaken avoid n (with_primes j base ++ codes "'")) (with_primes j base)) (h.least j (omega (arith, e))) ∙ search i n (suc j) (omega (arith, e)) (omega (arith, l))

  pub is_free_name : r ≡ free_name avoid base
  is_free_name =
      let few = few_primes base h.primes (all_names avoid) (λ j l. taken_among (with_primes j base) avoid (h.least j l)) in
      let counted = all_counted avoid in
      sym (search h.primes (count_all avoid) 0 (omega arith) (omega (arith, few, counted)))
