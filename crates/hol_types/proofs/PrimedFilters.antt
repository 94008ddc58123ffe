-- Names with primes: with four more a name has the place that it had.
use Rattle.std.proofs.Common.{◌≡◌, ℕ, zero, suc, ◌+◌, ◌*◌, ◌^◌, ◌%◌, ◌<◌, List, [], ◌∷◌, ◌++◌, refl, sym, ap, ◌∙◌, ◌⊎◌, inl, inr, arith}
use Rattle.std.specs.Int.{bit_at}
use lib.Bits.{bit_or}
use Rattle.std.proofs.lemmas.Nat.Bits.{bit_at_or, bit_at-pow_same, bit_at-pow_other, bit_at-lt}
use Rattle.std.proofs.lemmas.Bool.Decides.{eqb_tells}
use Rattle.hol_types.specs.Filter.{name_place}
use Rattle.hol_types.proofs.Filters.{or_has_left, or_has_right}

-- the place of a name with one prime more
abbrev pub next : ℕ → ℕ
next p = (31 * p + 39) % 64

place_append : (p : ℕ) (a : List ℕ) (x : ℕ) → name_place p (a ++ x ∷ []) ≡ (31 * name_place p a + x) % 64
place_append p [] x = refl
place_append p (y ∷ a) x = place_append ((31 * p + y) % 64) a x

twice : (p : ℕ) → p < 64 → next (next p) ≡ (p + 32) % 64
twice p h = omega arith

back : (p : ℕ) → p < 64 → next (next (next (next p))) ≡ p
back p h =
    let e : next (next p) ≡ (p + 32) % 64 = twice p h in
    let within : next (next p) < 64 = omega arith in
    let f : next (next (next (next p))) ≡ (next (next p) + 32) % 64 = twice (next (next p)) within in
    omega (arith, e, f)

abbrev pub four : ℕ → ℕ → ℕ → ℕ → ℕ
four p q r s = bit_or (bit_or (bit_or (2 ^ p) (2 ^ q)) (2 ^ r)) (2 ^ s)

one_of : (p k : ℕ) → bit_at (2 ^ p) k ≡ 1 → k ≡ p
one_of p k h = elim (eqb_tells k p) [
  | inl same ↦ same.1
  | inr other ↦ absurd (let none : bit_at (2 ^ p) k ≡ 0 = bit_at-pow_other p k other.1 in omega (arith, none, h))
]

either : (m n k : ℕ) → bit_at (bit_or m n) k ≡ 1 → (bit_at m k ≡ 1) ⊎ (bit_at n k ≡ 1)
either m n k h = by (bit_at m k) refl
  where
    by : (b : ℕ) → bit_at m k ≡ b → (bit_at m k ≡ 1) ⊎ (bit_at n k ≡ 1)
    by zero e = inr (omega (arith, bit_at_or m n k, h, e, bit_at-lt n k))
    by (suc b) e = inl (omega (arith, e, bit_at-lt m k))

module _ (p q r s : ℕ) (small : p < 64) (second : q ≡ next p) (third : r ≡ next q) (fourth : s ≡ next r) where
  has_first : bit_at (four p q r s) p ≡ 1
  has_first = or_has_left _ (2 ^ s) p (or_has_left _ (2 ^ r) p (or_has_left (2 ^ p) (2 ^ q) p (bit_at-pow_same p)))

  has_second : bit_at (four p q r s) q ≡ 1
  has_second = or_has_left _ (2 ^ s) q (or_has_left _ (2 ^ r) q (or_has_right (2 ^ p) (2 ^ q) q (bit_at-pow_same q)))

  has_third : bit_at (four p q r s) r ≡ 1
  has_third = or_has_left _ (2 ^ s) r (or_has_right _ (2 ^ r) r (bit_at-pow_same r))

  has_fourth : bit_at (four p q r s) s ≡ 1
  has_fourth = or_has_right _ (2 ^ s) s (bit_at-pow_same s)

  at : (j k : ℕ) → k ≡ j → bit_at (four p q r s) j ≡ 1 → bit_at (four p q r s) k ≡ 1
  at j k e h = ap (bit_at (four p q r s)) e ∙ h

  around : p ≡ next s
  around = sym (back p small) ∙ ap next (sym (fourth ∙ ap next (third ∙ ap next second)))

  step : (k : ℕ) → bit_at (four p q r s) k ≡ 1 → bit_at (four p q r s) (next k) ≡ 1
  step k h = elim (either (bit_or (bit_or (2 ^ p) (2 ^ q)) (2 ^ r)) (2 ^ s) k h) [
    | inl x ↦ elim (either (bit_or (2 ^ p) (2 ^ q)) (2 ^ r) k x) [
      | inl y ↦ elim (either (2 ^ p) (2 ^ q) k y) [
        | inl z ↦ at q (next k) (ap next (one_of p k z) ∙ sym second) has_second
        | inr z ↦ at r (next k) (ap next (one_of q k z) ∙ sym third) has_third
      ]
      | inr y ↦ at s (next k) (ap next (one_of r k y) ∙ sym fourth) has_fourth
    ]
    | inr x ↦ at p (next k) (ap next (one_of s k x) ∙ sym around) has_first
  ]

  pub closed : (a : List ℕ) → bit_at (four p q r s) (name_place 0 a) ≡ 1 → bit_at (four p q r s) (name_place 0 (a ++ 39 ∷ [])) ≡ 1
  closed a h = at (next (name_place 0 a)) (name_place 0 (a ++ 39 ∷ [])) (place_append 0 a 39) (step (name_place 0 a) h)

  pub four_places : (bits : ℕ) → bits ≡ four p q r s → bit_at bits p ≡ 1
  four_places bits e = ap (λ b. bit_at b p) e ∙ has_first
