-- A term agrees with itself under binders that give its free variables one meaning.
use Rattle.std.proofs.Common.{◌≡◌, ℕ, List, [], ◌∷◌, refl, sym, ap, ◌∙◌, subst, Bool, true, false, cond, not, ◌&&◌, ◌||◌, bytes_eq, ◌⊎◌, inl, inr}
use Rattle.std.specs.Int.{bit_at}
use Rattle.std.proofs.lemmas.Bool.{and_from}
use Rattle.std.proofs.lemmas.Slice.Eq.{bytes_eq-Decides}
use lib.Bits.{bit_and, bit_or}
use Rattle.hol_types.specs.Tree.{TypeTree}
use Rattle.hol_types.specs.Equal.{type_eq, variable_eq}
use Rattle.hol_types.specs.Filter.{name_place, name_bit}
use Rattle.hol_types.proofs.Filters.{Apart, apart_bits, own_bit, or_has_left, or_has_right}
use Rattle.hol_types.proofs.OrderLaws.{type_cmp_decides}
use Rattle.hol_terms.specs.Named.{Named, var, constant, comb, abs}
use Rattle.hol_terms.specs.Nameless.{base_of}
use Rattle.hol_terms.specs.Filter.{filter_of}
use Rattle.hol_terms.specs.Scoped.{same_place, AgreeBut, same_named}
use Rattle.hol_terms.proofs.Same.{variable_eq_decides}

abbrev Variables : Type 0
Variables = List (List ℕ × TypeTree)

pub variable_itself : (v : List ℕ × TypeTree) → variable_eq v v ≡ true
variable_itself v = (variable_eq_decides v v).1 refl

type_itself : (t : TypeTree) → type_eq t t ≡ true
type_itself t = (type_cmp_decides t t).1 refl

name_itself : (a : List ℕ) → bytes_eq a a ≡ true
name_itself a = (bytes_eq-Decides a a).1 refl

-- outside all binders
pub agree_outside : (bits : ℕ) → AgreeBut bits [] []
agree_outside bits = record { same = λ v n. variable_itself v }

-- under one binder more that both have
pub agree_both : (bits : ℕ) (v : List ℕ × TypeTree) (left right : Variables) → AgreeBut bits left right → AgreeBut bits (v ∷ left) (v ∷ right)
agree_both bits v left right h = record { same = λ u n. by u (variable_eq v u) (h.same u n) }
  where
    by : (u : List ℕ × TypeTree) (b : Bool) → same_place left u right u ≡ true → cond b b (cond b false (same_place left u right u)) ≡ true
    by u true e = refl
    by u false e = e

-- under one binder more on each side
agree_apart : (bits : ℕ) (v w : List ℕ × TypeTree) (left right : Variables) → AgreeBut bits left right → AgreeBut (bit_or (bit_or bits (name_bit v.0)) (name_bit w.0)) (v ∷ left) (w ∷ right)
agree_apart bits v w left right h = record { same = λ u n. by u n (variable_eq v u) refl (variable_eq w u) refl }
  where
    bit_of : (x u : List ℕ × TypeTree) → variable_eq x u ≡ true → bit_at (name_bit x.0) (name_place 0 u.0) ≡ 1
    bit_of x u e = subst (λ (y : List ℕ × TypeTree). bit_at (name_bit x.0) (name_place 0 y.0) ≡ 1) ((variable_eq_decides x u).0 e) (own_bit x.0)

    both : ℕ
    both = bit_or (bit_or bits (name_bit v.0)) (name_bit w.0)

    by : (u : List ℕ × TypeTree) → (bit_at (bit_or (bit_or bits (name_bit v.0)) (name_bit w.0)) (name_place 0 u.0) ≡ 1 → ⊥) → (a : Bool) → variable_eq v u ≡ a → (b : Bool) → variable_eq w u ≡ b → cond a b (cond b false (same_place left u right u)) ≡ true
    by u n true e b f = absurd (n (or_has_left (bit_or bits (name_bit v.0)) (name_bit w.0) (name_place 0 u.0) (or_has_right bits (name_bit v.0) (name_place 0 u.0) (bit_of v u e))))
    by u n false e true f = absurd (n (or_has_right (bit_or bits (name_bit v.0)) (name_bit w.0) (name_place 0 u.0) (bit_of w u f)))
    by u n false e false f = h.same u (λ p. n (or_has_left (bit_or bits (name_bit v.0)) (name_bit w.0) (name_place 0 u.0) (or_has_left bits (name_bit v.0) (name_place 0 u.0) p)))

pub agree_inside : (bits more : ℕ) (v w : List ℕ × TypeTree) (left right : Variables) → (((v ≡ w) × (more ≡ bits)) ⊎ (more ≡ bit_or (bit_or bits (name_bit v.0)) (name_bit w.0))) → AgreeBut bits left right → AgreeBut more (v ∷ left) (w ∷ right)
agree_inside bits more v w left right (inl e) h = subst (λ (m : ℕ). AgreeBut m (v ∷ left) (w ∷ right)) (sym e.1) (subst (λ (u : List ℕ × TypeTree). AgreeBut bits (v ∷ left) (u ∷ right)) e.0 (agree_both bits v left right h))
agree_inside bits more v w left right (inr e) h = subst (λ (m : ℕ). AgreeBut m (v ∷ left) (w ∷ right)) (sym e) (agree_apart bits v w left right h)

same_base_itself : (with_bases : Bool) (a : List ℕ) → (not with_bases || bytes_eq (base_of a) (base_of a)) ≡ true
same_base_itself true a = name_itself (base_of a)
same_base_itself false a = refl

same_itself : (with_bases : Bool) (left : Variables) (s : Named) (right : Variables) (bits : ℕ) → AgreeBut bits left right → Apart (filter_of s) bits → same_named with_bases left s right s ≡ true
same_itself with_bases left (var v) right bits h apart = h.same v (λ e. apart (name_place 0 v.0) (own_bit v.0) e)
same_itself with_bases left (constant c s) right bits h apart = and_from (bytes_eq c c) (type_eq s s) (name_itself c) (type_itself s)
same_itself with_bases left (comb f x) right bits h apart =
    and_from (same_named with_bases left f right f) (same_named with_bases left x right x)
    (same_itself with_bases left f right bits h (λ k p q. apart k (or_has_left (filter_of f) (filter_of x) k p) q))
    (same_itself with_bases left x right bits h (λ k p q. apart k (or_has_right (filter_of f) (filter_of x) k p) q))
same_itself with_bases left (abs v b) right bits h apart =
    and_from (not with_bases || bytes_eq (base_of v.0) (base_of v.0)) (type_eq v.1 v.1 && same_named with_bases (v ∷ left) b (v ∷ right) b) (same_base_itself with_bases v.0)
    (and_from (type_eq v.1 v.1) (same_named with_bases (v ∷ left) b (v ∷ right) b) (type_itself v.1)
    (same_itself with_bases (v ∷ left) b (v ∷ right) bits (agree_both bits v left right h) apart))

pub same_alike : (with_bases : Bool) (left : Variables) (s : Named) (right : Variables) (t : Named) (bits : ℕ) → AgreeBut bits left right → bit_and (filter_of s) bits ≡ 0 → s ≡ t → true ≡ same_named with_bases left s right t
same_alike with_bases left s right t bits h e is =
    sym (same_itself with_bases left s right bits h (apart_bits (filter_of s) bits e)) ∙ ap (λ u. same_named with_bases left s right u) is
