-- Names as a base and primes.
use Rattle.std.proofs.Common.{◌≡◌, ◌≢◌, ℕ, ◌+◌, ◌-◌, ◌<◌, ◌≤◌, zero, suc, List, [], ◌∷◌, ◌++◌, length, length-append, get_or, take, drop, refl, ap, sym, ◌∙◌, append_assoc, Bool, true, false, cond, ◌||◌, bytes_eq, codes, arith}
use Rattle.std.proofs.Math.ListN.{set}
use Rattle.std.proofs.Math.Bool.{or_assoc, or-false}
use Rattle.std.proofs.lemmas.Bool.{false_from_ne_true, or_right}
use Rattle.std.proofs.lemmas.List.{get_or-set_other}
use Rattle.std.proofs.lemmas.Grind.{get_or-set_at}
use Rattle.std.proofs.lemmas.Slice.Eq.{bytes_eq-Decides}
use Rattle.std.specs.Prelude.{◌==◌}
use Rattle.std.proofs.lemmas.Bool.Decides.{nat_tests}
use Rattle.hol_types.specs.Names.{is_among}
use Rattle.hol_terms.specs.Nameless.{with_letter, base_of}
use Rattle.hol_terms.specs.Primes.{with_primes}
use Rattle.hol_terms.proofs.Primes.{base_with_primes, base_again, primes_length}
use Rattle.hol_print.specs.Taken.{IsTable}
use Rattle.hol_print.specs.ShowTerm.{primed}

-- ---- the base of a name with primes

-- a name is one base with primes in one way
same_base : (k j : ℕ) (a b : List ℕ) → base_of a ≡ a → base_of b ≡ b → with_primes k a ≡ with_primes j b → a ≡ b
same_base k j a b p q e = sym p ∙ sym (base_with_primes k a) ∙ ap base_of e ∙ base_with_primes j b ∙ q

same_primes : (k j : ℕ) (a : List ℕ) → with_primes k a ≡ with_primes j a → k ≡ j
same_primes k j a e = let h : length (with_primes k a) ≡ length (with_primes j a) = ap length e in omega (arith, h, primes_length k a, primes_length j a)

pub other_base : (a b : List ℕ) (k j : ℕ) → base_of a ≡ a → base_of b ≡ b → a ≢ b → with_primes k a ≢ with_primes j b
other_base a b k j p q ne e = ne (same_base k j a b p q e)

-- ---- one prime more

pub with_end : (k : ℕ) (a : List ℕ) → with_primes k (a ++ codes "'") ≡ with_primes k a ++ codes "'"
with_end zero a = refl
with_end (suc k) a = ap (λ x. x ++ codes "'") (with_end k a)

pub more_primes : (k : ℕ) (a : List ℕ) → with_primes (k + 1) a ≡ with_primes k a ++ codes "'"
more_primes k a = let e : k + 1 ≡ suc k = omega arith in rw e refl

pub ruleset one_more = (more_primes)

pub with_before : (k : ℕ) (o a : List ℕ) → with_primes k (o ++ a) ≡ o ++ with_primes k a
with_before zero o a = refl
with_before (suc k) o a = ap (λ x. x ++ codes "'") (with_before k o a) ∙ append_assoc o (with_primes k a) (codes "'")

pub ruleset after_front = (with_before)

-- ---- the base and the primes of a text

base_length : (a : List ℕ) → length (base_of a) ≤ length a
base_length [] = omega arith
base_length (x ∷ xs) = by (base_of xs) (base_length xs)
  where
    letter : (t : Bool) (n : ℕ) → length (cond t [] (x ∷ [])) ≤ suc n
    letter true n = omega arith
    letter false n = omega arith

    by : (b : List ℕ) → length b ≤ length xs → length (with_letter x b) ≤ suc (length xs)
    by [] h = letter (x == 39) (length xs)
    by (y ∷ ys) h = omega arith

with_front : (k : ℕ) (x : ℕ) (a : List ℕ) → with_primes k (x ∷ a) ≡ x ∷ with_primes k a
with_front zero x a = refl
with_front (suc k) x a = ap (λ y. y ++ codes "'") (with_front k x a)

whole : (a : List ℕ) → with_primes (length a - length (base_of a)) (base_of a) ≡ a
whole [] = refl
whole (x ∷ xs) = by (base_of xs) (whole xs)
  where
    prime : (t : Bool) → (x == 39) ≡ t → with_primes (length xs) [] ≡ xs → with_primes (suc (length xs) - length (cond t [] (x ∷ []))) (cond t [] (x ∷ [])) ≡ x ∷ xs
    prime true e h =
        let p : x ≡ 39 = grind (arith, nat_tests) in
        let d : suc (length xs) - 0 ≡ suc (length xs) = omega arith in
        ap (λ m. with_primes m []) d ∙ sym (with_end (length xs) []) ∙ with_front (length xs) 39 [] ∙ (λ i. sym p i ∷ h i)
    prime false e h =
        let d : suc (length xs) - 1 ≡ length xs = omega arith in
        ap (λ m. with_primes m (x ∷ [])) d ∙ with_front (length xs) x [] ∙ ap (λ ys. x ∷ ys) h

    by : (b : List ℕ) → with_primes (length xs - length b) b ≡ xs → with_primes (suc (length xs) - length (with_letter x b)) (with_letter x b) ≡ x ∷ xs
    by [] h =
        let d : length xs ≡ length xs - 0 = omega arith in
        prime (x == 39) refl (ap (λ m. with_primes m []) d ∙ h)
    by (y ∷ ys) h =
        let d : suc (length xs) - suc (length (y ∷ ys)) ≡ length xs - length (y ∷ ys) = omega arith in
        ap (λ m. with_primes m (x ∷ y ∷ ys)) d ∙ with_front (length xs - length (y ∷ ys)) x (y ∷ ys) ∙ ap (λ zs. x ∷ zs) h

pub base_within : (a b : List ℕ) → b ≡ base_of a → length b ≤ length a
base_within a b e = rw e (base_length a)

pub base_is_base : (a b : List ℕ) → b ≡ base_of a → base_of b ≡ b
base_is_base a b e = rw e (base_again a)

pub text_is : (a b : List ℕ) → b ≡ base_of a → with_primes (length a - length b) b ≡ a
text_is a b e = rw e (whole a)

pub ruleset of_text = (base_within, base_is_base, text_is)

-- ---- the fewest primes

pub fewest : (n k : ℕ) (names : List (List ℕ)) (a : List ℕ) → k ≤ n → ((j : ℕ) → j < k → is_among names (with_primes j a) ≡ true) → (k < n → is_among names (with_primes k a) ≡ false) → with_primes k a ≡ primed n names a
fewest zero zero names a h f g = refl
fewest zero (suc k) names a h f g = absurd (omega arith)
fewest (suc n) zero names a h f g = let e : is_among names a ≡ false = g (omega arith) in rw e refl
fewest (suc n) (suc k) names a h f g =
    let e : is_among names a ≡ true = f 0 (omega arith) in
    let found : with_primes k (a ++ codes "'") ≡ primed n names (a ++ codes "'") = fewest n k names (a ++ codes "'") (omega arith) (λ j l. ap (is_among names) (with_end j a) ∙ f (suc j) (omega arith)) (λ l. ap (is_among names) (with_end k a) ∙ g (omega arith)) in
    rw e (sym (with_end k a) ∙ found)

-- ---- which primes are taken

no_more : (p q : Bool) → q ≡ false → p ≡ (p || q)
no_more true q e = refl
no_more false q e = sym e

other_primes : (k j : ℕ) (a name : List ℕ) → name ≡ with_primes j a → k ≢ j → bytes_eq (with_primes k a) name ≡ false
other_primes k j a name is ne = false_from_ne_true (bytes_eq (with_primes k a) name) (λ e. ne (same_primes k j a ((bytes_eq-Decides (with_primes k a) name).0 e ∙ is)))

pub marked : (taken : List Bool) (j k : ℕ) (a name : List ℕ) → name ≡ with_primes j a → j < length taken → k < length taken → get_or (set taken j true) k false ≡ (get_or taken k false || bytes_eq (with_primes k a) name)
marked taken j k a name is l m = by (k == j) refl
  where
    by : (t : Bool) → (k == j) ≡ t → get_or (set taken j true) k false ≡ (get_or taken k false || bytes_eq (with_primes k a) name)
    by true e =
        let same : k ≡ j = grind (arith, nat_tests) in
        let here : get_or (set taken j true) k false ≡ true = get_or-set_at taken j k true false same l in
        let met : bytes_eq (with_primes k a) name ≡ true = (bytes_eq-Decides (with_primes k a) name).1 (ap (λ n. with_primes n a) same ∙ sym is) in
        here ∙ sym (or_right (get_or taken k false) (bytes_eq (with_primes k a) name) met)
    by false e =
        let ne : k ≢ j = grind (arith, nat_tests) in
        get_or-set_other taken j k true false ne ∙ no_more (get_or taken k false) (bytes_eq (with_primes k a) name) (other_primes k j a name is ne)

pub unmarked_past : (taken : List Bool) (j k : ℕ) (a name : List ℕ) → name ≡ with_primes j a → length taken ≤ j → k < length taken → get_or taken k false ≡ (get_or taken k false || bytes_eq (with_primes k a) name)
unmarked_past taken j k a name is l m = no_more (get_or taken k false) (bytes_eq (with_primes k a) name) (other_primes k j a name is (λ e. omega (arith, e)))

pub unmarked_other : (taken : List Bool) (k : ℕ) (a name : List ℕ) → ((j : ℕ) → name ≢ with_primes j a) → get_or taken k false ≡ (get_or taken k false || bytes_eq (with_primes k a) name)
unmarked_other taken k a name f = no_more (get_or taken k false) (bytes_eq (with_primes k a) name) (false_from_ne_true (bytes_eq (with_primes k a) name) (λ e. f k (sym ((bytes_eq-Decides (with_primes k a) name).0 e))))

pub ruleset marking = (marked, unmarked_past, unmarked_other)

-- the next name
among_next : (names : List (List ℕ)) (i : ℕ) (name x : List ℕ) → i < length names → name ≡ get_or names i name → is_among (drop i names) x ≡ (bytes_eq x name || is_among (drop (i + 1) names) x)
among_next [] i name x l e = absurd (omega arith)
among_next (n ∷ names) zero name x l e = let same : name ≡ n = e in rw same refl
among_next (n ∷ names) (suc i) name x l e = let d : suc i + 1 ≡ suc (i + 1) = omega arith in rw d (among_next names i name x (omega arith) e)

pub table_next : (names : List (List ℕ)) (i : ℕ) (name x : List ℕ) (t p q : Bool) → i < length names → name ≡ get_or names i name → t ≡ (p || is_among (drop i names) x) → q ≡ (p || bytes_eq x name) → t ≡ (q || is_among (drop (i + 1) names) x)
table_next names i name x t p q l e h k =
    h ∙ ap (λ b. p || b) (among_next names i name x l e) ∙ sym (or_assoc p (bytes_eq x name) (is_among (drop (i + 1) names) x)) ∙ ap (λ b. b || is_among (drop (i + 1) names) x) (sym k)

pub table_end : (names : List (List ℕ)) (i : ℕ) (x : List ℕ) (t p : Bool) → length names ≤ i → t ≡ (p || is_among (drop i names) x) → p ≡ t
table_end [] zero x t p l h = sym (h ∙ or-false p)
table_end [] (suc i) x t p l h = sym (h ∙ or-false p)
table_end (n ∷ names) zero x t p l h = absurd (omega arith)
table_end (n ∷ names) (suc i) x t p l h = table_end names i x t p (omega arith) h

-- a slice of all of a vector, written back
cut : (xs ys : List Bool) → take (length xs) (xs ++ ys) ≡ xs
cut [] ys = refl
cut (x ∷ xs) ys = ap (λ zs. x ∷ zs) (cut xs ys)

pub written : (len : ℕ) (new items : List Bool) → len ≡ length items → length new ≡ length items → take len (new ++ drop (length new) items) ≡ new
written len new items e h = ap (λ n. take n (new ++ drop (length new) items)) (e ∙ sym h) ∙ cut new (drop (length new) items)

pub from_table : (taken seen : List Bool) (names : List (List ℕ)) (a : List ℕ) (k : ℕ) → IsTable taken names a → seen ≡ taken → k ≤ length seen → ((j : ℕ) → j < k → get_or seen j false ≡ true) → (k < length seen → get_or seen k false ≡ false) → with_primes k a ≡ primed (length names) names a
from_table taken seen names a k t e within all first =
    let n : length seen ≡ length names = ap length e ∙ t.long in
    fewest (length names) k names a (omega arith)
    (λ j l. sym (t.says j (omega arith)) ∙ ap (λ ts. get_or ts j false) (sym e) ∙ all j l)
    (λ l. sym (t.says k l) ∙ ap (λ ts. get_or ts k false) (sym e) ∙ first (omega arith))
