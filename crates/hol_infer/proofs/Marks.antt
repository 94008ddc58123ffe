-- No type variable that is written has the name of one that is left open.
use Rattle.std.proofs.Common.{◌≡◌, ℕ, ◌+◌, ◌/◌, ◌%◌, zero, suc, List, [], ◌∷◌, drop, refl, sym, ◌∙◌, ap, arith, Bool, true, false, cond, ◌==◌, nat_lt, decimal}
use Rattle.std.specs.Fmt.{digits, digits_onto, digit_glyph}
use Rattle.std.proofs.lemmas.Bool.{ltb-true, ne_eqb}
use Rattle.hol_typing.specs.Typing.{IsOpen}
use Rattle.hol_infer.specs.Resolving.{begins_with_mark, written_variable}

-- a digit is no `?`
glyph_unmarked : (d : ℕ) → (digit_glyph false d == 63) ≡ false
glyph_unmarked d = by (nat_lt d 10) refl
  where
    by : (b : Bool) → nat_lt d 10 ≡ b → (cond b (48 + d) (87 + d) == 63) ≡ false
    by true e = let l = ltb-true d 10 e in ne_eqb (48 + d) 63 (λ h. omega (arith, l, h))
    by false e = ne_eqb (87 + d) 63 (λ h. omega (arith, h))

digits_unmarked : (k n : ℕ) (acc : List ℕ) → begins_with_mark acc ≡ false → begins_with_mark (digits_onto k 10 false n acc) ≡ false
digits_unmarked zero n acc h = h
digits_unmarked (suc k) n acc h = by (n / 10 == 0) (glyph_unmarked (n % 10)) (digits_unmarked k (n / 10) (digit_glyph false (n % 10) ∷ acc) (glyph_unmarked (n % 10)))
  where
    by : (b : Bool) → (digit_glyph false (n % 10) == 63) ≡ false → begins_with_mark (digits_onto k 10 false (n / 10) (digit_glyph false (n % 10) ∷ acc)) ≡ false →
        begins_with_mark (cond b (digit_glyph false (n % 10) ∷ acc) (digits_onto k 10 false (n / 10) (digit_glyph false (n % 10) ∷ acc))) ≡ false
    by true g r = g
    by false g r = r

decimal_unmarked : (k : ℕ) → begins_with_mark (decimal k) ≡ false
unfolding digits
decimal_unmarked k = digits_unmarked 64 k [] refl

pub written_rigid : (a : List ℕ) → IsOpen (written_variable a) → ⊥
written_rigid a = by (begins_with_mark a) refl
  where
    by : (b : Bool) → begins_with_mark a ≡ b → IsOpen (cond b (63 ∷ a) a) → ⊥
    by true h (k, e) = let z : true ≡ false = sym h ∙ ap begins_with_mark (ap (drop 1) e) ∙ decimal_unmarked k in cc
    by false h (k, e) = let z : false ≡ true = sym h ∙ ap begins_with_mark e in cc
