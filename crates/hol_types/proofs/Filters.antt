-- A variable that occurs has its bit in the filter. So where the filters of a type and of pairs have no bit in common, no pair's variable
-- occurs, and where the filter is 0 none does.
use Rattle.std.proofs.Common.{◌≡◌, ◌≢◌, ℕ, ◌+◌, ◌*◌, ◌^◌, ◌%◌, ◌<◌, ◌≤◌, min, max, List, [], ◌∷◌, ◌++◌, length, get_or, drop, refl, sym, ap, ◌∙◌, subst, Bool, true, false, cond, ◌&&◌, ◌||◌, bytes_eq, Option, Some, None, unwrap_or, arith, lit<}
use Rattle.std.specs.Int.{bit_at}
use Rattle.std.specs.Int.Bits.{or_zero_l, or_zero_r}
use lib.Bits.{bit_and, bit_or}
use Rattle.std.specs.Option.{option_and_then}
use Rattle.std.specs.Ordering.{is_eq}
use Rattle.std.proofs.lemmas.Map.Text.{is_eq-slice_cmp}
use Rattle.std.proofs.lemmas.Nat.{le_or_l, le_or_r}
use Rattle.std.proofs.lemmas.Nat.Bits.{bit_at_and, bit_at_or, bit_at-pow_same, bit_at-lt, bit_at-zero, same_from_bits}
use Rattle.std.proofs.lemmas.List.{drop_all}
use Rattle.std.proofs.lemmas.Slice.Eq.{bytes_eq-Decides}
use Rattle.std.proofs.Math.Nat.{one-mul, mod-eq_of_lt}
use Rattle.std.proofs.Math.Pow.{pow-lt}
use Rattle.hol_types.specs.Tree.{TypeTree, TypeList, TyVar, TyApp, no_types, more_types, type_list}
use Rattle.hol_types.specs.Subst.{type_lookup, type_for, type_subst, types_subst}
use Rattle.hol_types.specs.Names.{type_names, types_names, is_among}
use Rattle.hol_types.specs.Order.{name_cmp, type_cmp, types_cmp}
use Rattle.hol_types.specs.Equal.{type_eq}
use Rattle.hol_types.specs.Match.{match_type, match_types}
use Rattle.hol_types.specs.Filter.{name_place, name_bit, type_filter, types_filter, pairs_filter}
use Rattle.hol_types.proofs.OrderLaws.{type_cmp_decides, is_eq_then}
use Rattle.hol_types.proofs.Steps.{next_of}

-- ---- places
pub place_within : (p : ℕ) (name : List ℕ) → p < 64 → name_place p name < 64
place_within p [] h = h
place_within p (x ∷ xs) h = place_within ((31 * p + x) % 64) xs (omega arith)

-- `1 << k`
pub one_bit : (k : ℕ) → k < 64 → 1 * 2 ^ k % 2 ^ 64 ≡ 2 ^ k
one_bit k h = let b : 2 ^ k < 2 ^ 64 = pow-lt h in ap (λ n. n % 2 ^ 64) (one-mul (2 ^ k)) ∙ mod-eq_of_lt b

-- ---- bits
or_assoc : (a b c : ℕ) → bit_or (bit_or a b) c ≡ bit_or a (bit_or b c)
or_assoc a b c = same_from_bits _ _ at_bit
  where
    at_bit : (i : ℕ) → bit_at (bit_or (bit_or a b) c) i ≡ bit_at (bit_or a (bit_or b c)) i
    at_bit i = omega (arith, bit_at_or (bit_or a b) c i, bit_at_or a b i, bit_at_or a (bit_or b c) i, bit_at_or b c i)

-- a bit of either filter is one of both together
pub or_has_left : (m n k : ℕ) → bit_at m k ≡ 1 → bit_at (bit_or m n) k ≡ 1
or_has_left m n k h = omega (arith, bit_at_or m n k, bit_at-lt n k)

pub or_has_right : (m n k : ℕ) → bit_at n k ≡ 1 → bit_at (bit_or m n) k ≡ 1
or_has_right m n k h = omega (arith, bit_at_or m n k, bit_at-lt m k)

pub own_bit : (a : List ℕ) → bit_at (name_bit a) (name_place 0 a) ≡ 1
own_bit a = bit_at-pow_same (name_place 0 a)

-- no bit is in both
abbrev pub Apart : ℕ → ℕ → Type 0
Apart m n = (k : ℕ) → bit_at m k ≡ 1 → bit_at n k ≡ 1 → ⊥

pub no_bit : (k : ℕ) → bit_at 0 k ≡ 1 → ⊥
no_bit k h = omega (arith, bit_at-zero k)

pub apart_bits : (m n : ℕ) → bit_and m n ≡ 0 → Apart m n
apart_bits m n e k p q = no_bit k (ap (λ b. bit_at b k) (sym e) ∙ bit_at_and m n k ∙ (rw (p, q) refl))

-- ---- one turn of a loop over arguments or pairs
pub filter_step : (n : ℕ) (ts : List TypeTree) (i : ℕ) (t : TypeTree) → i < length ts → t ≡ get_or ts i t → bit_or n (types_filter (type_list (drop i ts))) ≡ bit_or (bit_or n (type_filter t)) (types_filter (type_list (drop (i + 1) ts)))
filter_step n ts i t h e = rw (next_of ts i t h e) (sym (or_assoc n (type_filter t) (types_filter (type_list (drop (i + 1) ts)))))

pub filter_all : (n : ℕ) (ts : List TypeTree) (i : ℕ) → length ts ≤ i → bit_or n (types_filter (type_list (drop i ts))) ≡ n
filter_all n ts i h = rw (drop_all i ts h) (or_zero_r n)

pub pairs_step : (n : ℕ) (ps : List (TypeTree × List ℕ)) (i : ℕ) (p : TypeTree × List ℕ) → i < length ps → p ≡ get_or ps i p → bit_or n (pairs_filter (drop i ps)) ≡ bit_or (bit_or n (name_bit p.1)) (pairs_filter (drop (i + 1) ps))
pairs_step n ps i p h e = rw (next_of ps i p h e) (sym (or_assoc n (name_bit p.1) (pairs_filter (drop (i + 1) ps))))

pub pairs_all : (n : ℕ) (ps : List (TypeTree × List ℕ)) (i : ℕ) → length ps ≤ i → bit_or n (pairs_filter (drop i ps)) ≡ n
pairs_all n ps i h = rw (drop_all i ps h) (or_zero_r n)

-- ---- what is kept
lookup_apart : (a : List ℕ) (pairs : List (TypeTree × List ℕ)) → Apart (name_bit a) (pairs_filter pairs) → type_lookup pairs a ≡ None
lookup_apart a [] h = refl
lookup_apart a (p ∷ pairs) h = by (bytes_eq p.1 a) refl (lookup_apart a pairs (λ k l m. h k l (or_has_right (name_bit p.1) (pairs_filter pairs) k m)))
  where
    clash : p.1 ≡ a → ⊥
    clash e = h (name_place 0 a) (own_bit a) (or_has_left (name_bit p.1) (pairs_filter pairs) (name_place 0 a) (subst (λ (b : List ℕ). bit_at (name_bit b) (name_place 0 a) ≡ 1) (sym e) (own_bit a)))

    by : (b : Bool) → bytes_eq p.1 a ≡ b → type_lookup pairs a ≡ None → cond b (Some p.0) (type_lookup pairs a) ≡ None
    by true e r = absurd (clash ((bytes_eq-Decides p.1 a).0 e))
    by false e r = r

mutual
  kept_apart : (pairs : List (TypeTree × List ℕ)) (t : TypeTree) → Apart (type_filter t) (pairs_filter pairs) → type_subst pairs t ≡ t
  kept_apart pairs (TyVar a) h = ap (λ o. unwrap_or o (TyVar a)) (lookup_apart a pairs h)
  kept_apart pairs (TyApp c ts) h = ap (TyApp c) (all_kept_apart pairs ts h)

  all_kept_apart : (pairs : List (TypeTree × List ℕ)) (ts : TypeList) → Apart (types_filter ts) (pairs_filter pairs) → types_subst pairs ts ≡ ts
  all_kept_apart pairs no_types h = refl
  all_kept_apart pairs (more_types t ts) h =
      let first : type_subst pairs t ≡ t = kept_apart pairs t (λ k p q. h k (or_has_left (type_filter t) (types_filter ts) k p) q) in
      let others : types_subst pairs ts ≡ ts = all_kept_apart pairs ts (λ k p q. h k (or_has_right (type_filter t) (types_filter ts) k p) q) in
      λ i. more_types (first i) (others i)

-- where no pair's variable may occur
pub kept_type : (pairs : List (TypeTree × List ℕ)) (t : TypeTree) → bit_and (type_filter t) (pairs_filter pairs) ≡ 0 → type_subst pairs t ≡ t
kept_type pairs t e = kept_apart pairs t (apart_bits (type_filter t) (pairs_filter pairs) e)

-- ---- which variables occur
or_zero : (m n : ℕ) → bit_or m n ≡ 0 → (m ≡ 0) × (n ≡ 0)
or_zero m n e = (omega (arith, le_or_l m n), omega (arith, le_or_r m n))

mutual
  pub no_names : (t : TypeTree) → type_filter t ≡ 0 → type_names t ≡ []
  no_names (TyVar a) e = absurd (no_bit (name_place 0 a) (ap (λ n. bit_at n (name_place 0 a)) (sym e) ∙ own_bit a))
  no_names (TyApp c ts) e = no_names_of ts e

  no_names_of : (ts : TypeList) → types_filter ts ≡ 0 → types_names ts ≡ []
  no_names_of no_types e = refl
  no_names_of (more_types t ts) e = let p = or_zero (type_filter t) (types_filter ts) e in rw (no_names t p.0, no_names_of ts p.1) refl

-- the pairs change nothing where no variable occurs
pub kept_closed : (pairs : List (TypeTree × List ℕ)) (t : TypeTree) → type_filter t ≡ 0 → type_subst pairs t ≡ t
kept_closed pairs t e = kept_apart pairs t (λ k p q. no_bit k (ap (λ n. bit_at n k) (sym e) ∙ p))

pub among_append : (xs ys : List (List ℕ)) (a : List ℕ) → is_among (xs ++ ys) a ≡ (is_among xs a || is_among ys a)
among_append [] ys a = refl
among_append (x ∷ xs) ys a = by (bytes_eq a x) (among_append xs ys a)
  where
    by : (b : Bool) → is_among (xs ++ ys) a ≡ (is_among xs a || is_among ys a) → (b || is_among (xs ++ ys) a) ≡ ((b || is_among xs a) || is_among ys a)
    by true e = refl
    by false e = e

mutual
  has_bit : (a : List ℕ) (t : TypeTree) → is_among (type_names t) a ≡ true → bit_at (type_filter t) (name_place 0 a) ≡ 1
  has_bit a (TyVar b) e = by (bytes_eq a b) refl e
    where
      by : (c : Bool) → bytes_eq a b ≡ c → (c || false) ≡ true → bit_at (name_bit b) (name_place 0 a) ≡ 1
      by true f g = subst (λ (d : List ℕ). bit_at (name_bit d) (name_place 0 a) ≡ 1) ((bytes_eq-Decides a b).0 f) (own_bit a)
      by false f g = absurd (cc)
  has_bit a (TyApp c ts) e = have_bit a ts e

  have_bit : (a : List ℕ) (ts : TypeList) → is_among (types_names ts) a ≡ true → bit_at (types_filter ts) (name_place 0 a) ≡ 1
  have_bit a no_types e = absurd (cc)
  have_bit a (more_types t ts) e = by (is_among (type_names t) a) (is_among (types_names ts) a) (has_bit a t) (have_bit a ts) (sym (among_append (type_names t) (types_names ts) a) ∙ e)
    where
      by : (b c : Bool) → (b ≡ true → bit_at (type_filter t) (name_place 0 a) ≡ 1) → (c ≡ true → bit_at (types_filter ts) (name_place 0 a) ≡ 1) → (b || c) ≡ true → bit_at (types_filter (more_types t ts)) (name_place 0 a) ≡ 1
      by true c p q r = or_has_left (type_filter t) (types_filter ts) (name_place 0 a) (p refl)
      by false true p q r = or_has_right (type_filter t) (types_filter ts) (name_place 0 a) (q refl)
      by false false p q r = absurd (cc)

-- filters with a bit in common
pub meeting : (m n k : ℕ) → bit_at m k ≡ 1 → bit_at n k ≡ 1 → bit_and m n ≢ 0
meeting m n k p q e = apart_bits m n e k p q

pub occurs_filter : (a : List ℕ) (t : TypeTree) → is_among (type_names t) a ≡ true → bit_and (type_filter t) (name_bit a) ≢ 0
occurs_filter a t e = meeting (type_filter t) (name_bit a) (name_place 0 a) (has_bit a t e) (own_bit a)

-- equal types have one filter
pub filters_differ : (s t : TypeTree) → type_filter s ≢ type_filter t → is_eq (type_cmp s t) ≡ false
filters_differ s t h = by (is_eq (type_cmp s t)) refl
  where
    by : (b : Bool) → is_eq (type_cmp s t) ≡ b → b ≡ false
    by true e = absurd (h (ap type_filter ((type_cmp_decides s t).0 e)))
    by false e = refl

-- a pattern without variables matches itself alone
both_conds : {A : Type 0} (a b : Bool) (o q : Option A) → cond a (cond b o q) q ≡ cond (a && b) o q
both_conds true b o q = refl
both_conds false b o q = refl

then_cond : (b : Bool) (found : List (TypeTree × List ℕ)) (f : List (TypeTree × List ℕ) → Option (List (TypeTree × List ℕ))) → option_and_then f (cond b (Some found) None) ≡ cond b (f found) None
then_cond true found f = refl
then_cond false found f = refl

mutual
  pub closed_match : (p : TypeTree) (found : List (TypeTree × List ℕ)) (t : TypeTree) → type_filter p ≡ 0 → match_type p found t ≡ cond (type_eq p t) (Some found) None
  closed_match (TyVar a) found t e = absurd (no_bit (name_place 0 a) (ap (λ n. bit_at n (name_place 0 a)) (sym e) ∙ own_bit a))
  closed_match (TyApp c ps) found (TyVar b) e = refl
  closed_match (TyApp c ps) found (TyApp d ts) e =
      ap (λ o. cond (bytes_eq c d) o None) (closed_matches ps found ts e)
      ∙ both_conds (bytes_eq c d) (is_eq (types_cmp ps ts)) (Some found) None
      ∙ ap (λ b. cond b (Some found) None) (ap (λ b. b && is_eq (types_cmp ps ts)) (sym (is_eq-slice_cmp c d)) ∙ sym (is_eq_then (name_cmp c d) (types_cmp ps ts)))

  closed_matches : (ps : TypeList) (found : List (TypeTree × List ℕ)) (ts : TypeList) → types_filter ps ≡ 0 → match_types ps found ts ≡ cond (is_eq (types_cmp ps ts)) (Some found) None
  closed_matches no_types found no_types e = refl
  closed_matches no_types found (more_types t ts) e = refl
  closed_matches (more_types p ps) found no_types e = refl
  closed_matches (more_types p ps) found (more_types t ts) e =
      let z = or_zero (type_filter p) (types_filter ps) e in
      ap (option_and_then (λ more. match_types ps more ts)) (closed_match p found t z.0)
      ∙ then_cond (type_eq p t) found (λ more. match_types ps more ts)
      ∙ ap (λ o. cond (type_eq p t) o None) (closed_matches ps found ts z.1)
      ∙ both_conds (type_eq p t) (is_eq (types_cmp ps ts)) (Some found) None
      ∙ ap (λ b. cond b (Some found) None) (sym (is_eq_then (type_cmp p t) (types_cmp ps ts)))
