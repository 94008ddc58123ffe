-- A variable that differs from another by primes alone, and occurs, has its place in the filter and among those of the base with primes.
use Rattle.std.proofs.Common.{◌≡◌, ℕ, suc, List, [], ◌∷◌, ◌++◌, refl, sym, ◌∙◌, ap, subst, Bool, true, false, cond, not, ◌||◌, ◌&&◌, ◌==◌, bytes_eq}
use lib.Bits.{bit_and}
use Rattle.std.proofs.lemmas.Bool.{and_parts}
use Rattle.std.proofs.lemmas.Bool.Decides.{Decides-eqb}
use Rattle.std.proofs.lemmas.Slice.Eq.{bytes_eq-Decides}
use Rattle.hol_types.specs.Tree.{TypeTree}
use Rattle.hol_types.specs.Equal.{variable_eq}
use Rattle.hol_types.specs.Filter.{name_place}
use Rattle.hol_types.proofs.Filters.{meeting}
use Rattle.hol_terms.specs.Filter.{filter_of}
use Rattle.hol_terms.specs.Named.{Named}
use Rattle.hol_terms.specs.Nameless.{with_letter, base_of}
use Rattle.hol_terms.specs.Primes.{with_primes}
use Rattle.hol_terms.specs.Scoped.{binds, occurs_in}
use Rattle.hol_terms.proofs.Filters.{has_bit}
use Rattle.hol_subst.specs.Marks.{HasPlace, HasPrimed}
use Rattle.hol_subst.specs.Renaming.{is_alike, is_alike_in}
use Rattle.hol_subst.proofs.PrimedNames.{primes_at_end, prime_before}

-- what the base lacks of a name are primes
record Ends (a b : List ℕ) : Type 0 where
  primes : ℕ
  is : a ≡ b ++ with_primes primes []

ends : (a : List ℕ) → Ends a (base_of a)
ends [] = record { primes = 0; is = refl }
ends (x ∷ xs) = by (base_of xs) (ends xs)
  where
    first : (k : ℕ) (t : Bool) → (x == 39) ≡ t → xs ≡ with_primes k [] → Ends (x ∷ xs) (cond t [] (x ∷ []))
    first k true e is = record { primes = suc k; is = (λ i. (Decides-eqb x 39).0 e i ∷ is i) ∙ sym (prime_before k) }
    first k false e is = record { primes = k; is = ap (λ ys. x ∷ ys) is }

    by : (b : List ℕ) → Ends xs b → Ends (x ∷ xs) (with_letter x b)
    by [] h = first h.primes (x == 39) refl h.is
    by (y ∷ ys) h = record { primes = h.primes; is = ap (λ zs. x ∷ zs) h.is }

alike_place : (bits : ℕ) (a base : List ℕ) → HasPrimed bits base → base_of a ≡ base → HasPlace bits a
alike_place bits a base h e =
    let end : Ends a (base_of a) = ends a in
    let is : a ≡ with_primes end.primes base = end.is ∙ ap (λ b. b ++ with_primes end.primes []) e ∙ sym (primes_at_end end.primes base) in
    subst (λ (b : List ℕ). HasPlace bits b) (sym is) (h end.primes)

or_none : (a b : Bool) → b ≡ false → a ≡ (a || b)
or_none true b e = refl
or_none false b e = sym e

-- where the filter has none of these, no variable alike occurs
pub none_alike : (found : List (List ℕ × TypeTree)) (v : List ℕ × TypeTree) (inner : List (List ℕ × TypeTree)) (t : Named) (bits : ℕ) (w : List ℕ × TypeTree) → HasPrimed bits (base_of v.0) → bit_and (filter_of t) bits ≡ 0
    → binds found w ≡ (binds found w || is_alike_in v inner t w)
none_alike found v inner t bits w h e = or_none (binds found w) (is_alike_in v inner t w) (by (is_alike_in v inner t w) refl)
  where
    by : (b : Bool) → is_alike_in v inner t w ≡ b → b ≡ false
    by false p = refl
    by true p =
        let parts = and_parts (is_alike v w) (not (binds inner w) && occurs_in w t) p in
        let base : base_of w.0 ≡ base_of v.0 = (bytes_eq-Decides (base_of w.0) (base_of v.0)).0 (and_parts (bytes_eq (base_of w.0) (base_of v.0)) (not (variable_eq w v)) parts.0).0 in
        let occurs : occurs_in w t ≡ true = (and_parts (not (binds inner w)) (occurs_in w t) parts.1).1 in
        absurd (meeting (filter_of t) bits (name_place 0 w.0) (has_bit w t occurs) (alike_place bits w.0 (base_of v.0) h base) e)
