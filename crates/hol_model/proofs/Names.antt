-- Names that are new: nothing stands under them yet; and what an item makes.
use Rattle.std.proofs.Common.{◌≡◌, ℕ, ◌⊎◌, inl, inr, List, [], ◌∷◌, length, refl, ap, sym, ◌∙◌, subst, true, false, cond, ◌&&◌, ◌||◌, ◌==◌, Some, None, bytes_eq}
use Rattle.std.specs.FinSet as set
use mathlib.Core.Bool.{true≢false}
use Rattle.std.specs.List.{list_any}
use Rattle.std.proofs.lemmas.Bool.{and_parts, or_parts, or_cases, or_left, or_right, false_from_ne_true}
use Rattle.std.proofs.lemmas.Slice.Eq.{bytes_eq-Decides}
use Rattle.hol_types.specs.Tree.{TypeTree}
use Rattle.hol_formulas.specs.Constants.{generic_in, is_instance_of, is_constructor, prelude_constants, prelude_generic, prelude_types}
use Rattle.hol_kernel.specs.Item.{Item, declared_type, declared_constant, defined_constant, defined_type, declared_axiom}
use Rattle.hol_kernel.specs.Items.{Items, in_order}
use Rattle.hol_kernel.specs.Signature.{type_key, constant_key, has_key, makes_type, makes_constant, has_arity, has_constant, term_tyvars}
use Rattle.hol_kernel.specs.Legal.{IsNew}
use Rattle.hol_kernel.proofs.Members.{in_insert_cases}
use Rattle.hol_kernel.proofs.SortedSets.{any_some, some_any}
use Rattle.hol_kernel.proofs.ItemOrder.{total, only}
use Rattle.hol_kernel.proofs.Weaken.{held, ordered_held}
use Rattle.hol_kernel.proofs.Makes.{no_constant}

-- ---- constants

generic_absent : (cs : List (List ℕ × TypeTree)) (c : List ℕ) → list_any (λ p. bytes_eq c p.0) cs ≡ false → generic_in cs c ≡ None
generic_absent [] c e = refl
generic_absent (p ∷ cs) c e =
    let q = or_parts (bytes_eq c p.0) (list_any (λ r. bytes_eq c r.0) cs) e in ap (λ b. cond b (Some p.1) (generic_in cs c)) q.0 ∙ generic_absent cs c q.1

-- a constant of a new name doesn't stand
constant_absent : (items : Items) (c : List ℕ) (s : TypeTree) → IsNew items (constant_key c) → has_constant items c s ≡ true → ⊥
constant_absent items c s new h =
    elim (or_cases (is_instance_of (prelude_generic c) s) (list_any (makes_constant c s) (in_order items)) h) [
      | inl i ↦ true≢false (sym i ∙ ap (λ o. is_instance_of o s) (generic_absent prelude_constants c new.0))
      | inr i ↦ let r = any_some (makes_constant c s) (in_order items) i in true≢false (sym r.2 ∙ no_constant r.0 c s (new.1 r.0 (held items r.0 r.1)))
    ]

-- so one that stands has another
pub other_constant : (items : Items) (c e : List ℕ) (s : TypeTree) → IsNew items (constant_key c) → has_constant items e s ≡ true → bytes_eq e c ≡ false
other_constant items c e s new h = false_from_ne_true (bytes_eq e c) (λ i. constant_absent items c s new (subst (λ (n : List ℕ). has_constant items n s ≡ true) ((bytes_eq-Decides e c).0 i) h))

-- ---- types

no_type : (x : Item) (c : List ℕ) (n : ℕ) → has_key x (type_key c) ≡ false → makes_type c n x ≡ false
no_type (declared_type d k) c n e = ap (λ t. (t && (n == k)) || false) (or_parts (bytes_eq c d) false e).0
no_type (declared_constant d b) c n e = refl
no_type (defined_constant d r) c n e = refl
no_type (defined_type d abs rep p) c n e = ap (λ t. (t && (n == length (term_tyvars p))) || false) (or_parts (bytes_eq c d) false e).0
no_type (declared_axiom d p) c n e = refl

type_absent : (items : Items) (c : List ℕ) (n : ℕ) → IsNew items (type_key c) → has_arity items c n ≡ true → ⊥
type_absent items c n new h =
    elim (or_cases (list_any (is_constructor c n) prelude_types) (list_any (makes_type c n) (in_order items)) h) [
      | inl i ↦
          let r = any_some (is_constructor c n) prelude_types i in
          true≢false (sym (some_any (λ p. bytes_eq c p.0) prelude_types r.0 r.1 (and_parts (bytes_eq c r.0.0) (n == r.0.1) r.2).0) ∙ new.0)
      | inr i ↦ let r = any_some (makes_type c n) (in_order items) i in true≢false (sym r.2 ∙ no_type r.0 c n (new.1 r.0 (held items r.0 r.1)))
    ]

pub other_type : (items : Items) (c e : List ℕ) (n : ℕ) → IsNew items (type_key c) → has_arity items e n ≡ true → bytes_eq e c ≡ false
other_type items c e n new h = false_from_ne_true (bytes_eq e c) (λ i. type_absent items c n new (subst (λ (d : List ℕ). has_arity items d n ≡ true) ((bytes_eq-Decides e c).0 i) h))

-- ---- one item more

pub constant_cases :
    (items : Items) (x : Item) (c : List ℕ) (s : TypeTree) → has_constant (set.insert items x) c s ≡ true → (has_constant items c s ≡ true) ⊎ (makes_constant c s x ≡ true)
constant_cases items x c s h =
    elim (or_cases (is_instance_of (prelude_generic c) s) (list_any (makes_constant c s) (in_order (set.insert items x))) h) [
      | inl i ↦ inl (or_left (is_instance_of (prelude_generic c) s) (list_any (makes_constant c s) (in_order items)) i)
      | inr i ↦
          let r = any_some (makes_constant c s) (in_order (set.insert items x)) i in
          elim (in_insert_cases total only items x r.0 (held (set.insert items x) r.0 r.1)) [
            | inl is ↦ inr (ap (makes_constant c s) (sym is) ∙ r.2)
            | inr old ↦ inl (or_right (is_instance_of (prelude_generic c) s) (list_any (makes_constant c s) (in_order items)) (some_any (makes_constant c s) (in_order items) r.0 (ordered_held items r.0 old) r.2))
          ]
    ]
