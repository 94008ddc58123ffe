-- A name that stands in a term, as that of a free variable or of a constant, has its bit in one of the term's filters.
use Rattle.std.proofs.Common.{◌≡◌, ℕ, zero, suc, List, [], ◌∷◌, ◌++◌, refl, sym, ◌∙◌, subst, get_or, Bool, true, false, not, ◌||◌, ◌&&◌, bytes_eq, ◌⊎◌, inl, inr}
use Rattle.std.specs.Int.{bit_at}
use Rattle.std.proofs.lemmas.Slice.Eq.{bytes_eq-Decides}
use Rattle.hol_types.specs.Tree.{TypeTree}
use Rattle.hol_types.specs.Filter.{name_place, name_bit}
use Rattle.hol_types.proofs.Filters.{own_bit, or_has_left, or_has_right, meeting}
use Rattle.hol_terms.specs.Filter.{filter_of, constant_filter_of}
use Rattle.hol_terms.specs.Named.{Named, var, constant, comb, abs}
use Rattle.hol_terms.specs.Nameless.{nameless}
use Rattle.hol_terms.specs.Primes.{with_primes}
use Rattle.hol_terms.specs.Scoped.{binds}
use Rattle.hol_subst.specs.FreeName.{has_name}
use Rattle.hol_subst.specs.Marks.{Marks, HasPlace, HasPrimed, Lacks}
use Rattle.hol_subst.proofs.FreeName.{has_place}

-- its bit is in one of the two
abbrev HasBit : List ℕ → Named → Type 0
HasBit a t = (bit_at (filter_of t) (name_place 0 a) ≡ 1) ⊎ (bit_at (constant_filter_of t) (name_place 0 a) ≡ 1)

-- a name's own bit, where another name is the same
same_bit : (a b : List ℕ) → bytes_eq b a ≡ true → bit_at (name_bit b) (name_place 0 a) ≡ 1
same_bit a b e = subst (λ (c : List ℕ). bit_at (name_bit b) (name_place 0 c) ≡ 1) ((bytes_eq-Decides b a).0 e) (own_bit b)

left_true : (a b : Bool) → (a && b) ≡ true → a ≡ true
left_true true b e = refl
left_true false b e = absurd (cc)

named_bit : (a : List ℕ) (env : List (List ℕ × TypeTree)) (t : Named) → has_name a (nameless env t) ≡ true → HasBit a t
named_bit a env (var v) e = inl (same_bit a v.0 (left_true (bytes_eq v.0 a) (not (binds env v)) (sym (has_place a env 0 v) ∙ e)))
named_bit a env (constant c s) e = inr (same_bit a c e)
named_bit a env (comb f x) e = by (has_name a (nameless env f)) (has_name a (nameless env x)) (named_bit a env f) (named_bit a env x) e
  where
    left : HasBit a f → HasBit a (comb f x)
    left h = elim h [
      | inl p ↦ inl (or_has_left (filter_of f) (filter_of x) (name_place 0 a) p)
      | inr p ↦ inr (or_has_left (constant_filter_of f) (constant_filter_of x) (name_place 0 a) p)
    ]

    right : HasBit a x → HasBit a (comb f x)
    right h = elim h [
      | inl p ↦ inl (or_has_right (filter_of f) (filter_of x) (name_place 0 a) p)
      | inr p ↦ inr (or_has_right (constant_filter_of f) (constant_filter_of x) (name_place 0 a) p)
    ]

    by : (m n : Bool) → (m ≡ true → HasBit a f) → (n ≡ true → HasBit a x) → (m || n) ≡ true → HasBit a (comb f x)
    by true n p q r = left (p refl)
    by false true p q r = right (q refl)
    by false false p q r = absurd (cc)
named_bit a env (abs v b) e = named_bit a (v ∷ env) b e

-- where neither meets a set that has the name, the name stands nowhere
pub lacked : (a : List ℕ) (env : List (List ℕ × TypeTree)) (t : Named) (bits : ℕ) → HasPlace bits a → Lacks bits t → has_name a (nameless env t) ≡ false
lacked a env t bits h l = by (has_name a (nameless env t)) refl
  where
    by : (b : Bool) → has_name a (nameless env t) ≡ b → b ≡ false
    by false p = refl
    by true p = elim (named_bit a env t p) [
      | inl q ↦ absurd (meeting (filter_of t) bits (name_place 0 a) q h l.free)
      | inr q ↦ absurd (meeting (constant_filter_of t) bits (name_place 0 a) q h l.constants)
    ]

or_none : (a b : Bool) → b ≡ false → a ≡ (a || b)
or_none true b e = refl
or_none false b e = sym e

-- and nothing is marked
pub none_marked : (old : List Bool) (base : List ℕ) (env : List (List ℕ × TypeTree)) (t : Named) (bits : ℕ) → HasPrimed bits base → Lacks bits t → Marks old old (λ k. has_name (with_primes k base) (nameless env t))
none_marked old base env t bits h l k = or_none (get_or old k false) _ (lacked (with_primes k base) env t bits (h k) l)

-- a set that has a base, and with each name that with one prime more
pub primed : (bits : ℕ) (base : List ℕ) → HasPlace bits base → ((a : List ℕ) → HasPlace bits a → HasPlace bits (a ++ 39 ∷ [])) → HasPrimed bits base
primed bits base h step zero = h
primed bits base h step (suc k) = step (with_primes k base) (primed bits base h step k)
