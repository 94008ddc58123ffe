-- Each name of a legal set stands once.
use Rattle.std.proofs.Common.{◌≡◌, ℕ, zero, suc, ◌<◌, inl, inr, List, [], ◌∷◌, length, refl, ap, sym, ◌∙◌, subst, Bool, true, false, ◌||◌, bytes_eq, arith}
use Rattle.std.specs.Prelude.{Contains, slice_index_or}
use mathlib.Core.Bool.{true≢false}
use Rattle.std.specs.List.{list_any}
use Rattle.std.proofs.lemmas.Bool.{or_left, or_right}
use Rattle.std.proofs.lemmas.Slice.Eq.{bytes_eq-Decides}
use Rattle.hol_formulas.specs.Constants.{prelude_types, prelude_constants, prelude_axioms}
use Rattle.hol_kernel.specs.Item.{Item, declared_type, declared_constant, defined_constant, defined_type, declared_axiom}
use Rattle.hol_kernel.specs.Items.{Items, Holds, item_set}
use Rattle.hol_kernel.specs.Signature.{ItemKey, type_key, constant_key, axiom_key, has_key, prelude_has}
use Rattle.hol_kernel.specs.Legal.{IsLegal, IsLegalSet}
use Rattle.hol_kernel.proofs.Members.{in_insert_cases, not_in_empty}
use Rattle.hol_kernel.proofs.ItemOrder.{total, only}
use Rattle.hol_model.specs.Names.{MakesType, MakesConstant, MakesAxiom, NamesStandOnce}

-- ---- names of items and of the prelude, as keys

same : (c d : List ℕ) → c ≡ d → bytes_eq c d ≡ true
same c d e = (bytes_eq-Decides c d).1 e

type_named : (x : Item) (c : List ℕ) → MakesType x c → has_key x (type_key c) ≡ true
type_named (declared_type d n) c e = or_left (bytes_eq c d) false (same c d e)
type_named (declared_constant d a) c e = absurd e
type_named (defined_constant d r) c e = absurd e
type_named (defined_type d abs rep p) c e = or_left (bytes_eq c d) false (same c d e)
type_named (declared_axiom n p) c e = absurd e

constant_named : (x : Item) (c : List ℕ) → MakesConstant x c → has_key x (constant_key c) ≡ true
constant_named (declared_type d n) c e = absurd e
constant_named (declared_constant d a) c e = or_left (bytes_eq c d) false (same c d e)
constant_named (defined_constant d r) c e = or_left (bytes_eq c d) false (same c d e)
constant_named (defined_type d abs rep p) c (inl e) = or_left (bytes_eq c abs) (bytes_eq c rep || false) (same c abs e)
constant_named (defined_type d abs rep p) c (inr e) = or_right (bytes_eq c abs) (bytes_eq c rep || false) (or_left (bytes_eq c rep) false (same c rep e))
constant_named (declared_axiom n p) c e = absurd e

axiom_named : (x : Item) (m : List ℕ) → MakesAxiom x m → has_key x (axiom_key m) ≡ true
axiom_named (declared_type d n) m e = absurd e
axiom_named (declared_constant d a) m e = absurd e
axiom_named (defined_constant d r) m e = absurd e
axiom_named (defined_type d abs rep p) m e = absurd e
axiom_named (declared_axiom n p) m e = or_left (bytes_eq m n) false (same m n e)

any_contained : {X : Type 0} (p : X → Bool) (xs : List X) (x : X) → Contains xs x → p x ≡ true → list_any p xs ≡ true
any_contained p [] x h e = absurd (omega (arith, h.1))
any_contained p (y ∷ xs) x h e = at h.0 h.1 h.2 (λ i. any_contained p xs x i e)
  where
    at : (k : ℕ) → k < length (y ∷ xs) → slice_index_or (y ∷ xs) k x ≡ x → (Contains xs x → list_any p xs ≡ true) → (p y || list_any p xs) ≡ true
    at zero below is more = or_left (p y) (list_any p xs) (ap p is ∙ e)
    at (suc k) below is more = or_right (p y) (list_any p xs) (more (k, omega (arith, below), is))

-- ---- lists that are legal

module _ (k : ItemKey) where
  once : (order : List Item) → IsLegal order → (x y : Item) → Holds (item_set order) x → Holds (item_set order) y → has_key x k ≡ true → has_key y k ≡ true → x ≡ y
  once [] legal x y h g p q = absurd (not_in_empty total only x h)
  once (z ∷ earlier) legal x y h g p q =
      let clash : (w : Item) → Holds (item_set earlier) w → has_key w k ≡ true → has_key z k ≡ true → ⊥ = λ w i own new. true≢false (sym own ∙ (legal.0 k new).1 w i) in
      elim (in_insert_cases total only (item_set earlier) z x h) [
        | inl a ↦ elim (in_insert_cases total only (item_set earlier) z y g) [
          | inl b ↦ a ∙ sym b
          | inr b ↦ absurd (clash y b q (ap (λ (w : Item). has_key w k) (sym a) ∙ p))
        ]
        | inr a ↦ elim (in_insert_cases total only (item_set earlier) z y g) [
          | inl b ↦ absurd (clash x a p (ap (λ (w : Item). has_key w k) (sym b) ∙ q))
          | inr b ↦ once earlier legal.2 x y a b p q
        ]
      ]

  not_before : (order : List Item) → IsLegal order → (x : Item) → Holds (item_set order) x → has_key x k ≡ true → prelude_has k ≡ false
  not_before [] legal x h p = absurd (not_in_empty total only x h)
  not_before (z ∷ earlier) legal x h p =
      elim (in_insert_cases total only (item_set earlier) z x h) [
        | inl a ↦ (legal.0 k (ap (λ (w : Item). has_key w k) (sym a) ∙ p)).0
        | inr a ↦ not_before earlier legal.2 x a p
      ]

-- ---- legal sets

module _ (items : Items) (legal : IsLegalSet items) where
  listed : (x : Item) → Holds items x → Holds (item_set legal.0) x
  listed x h = subst (λ (s : Items). Holds s x) (sym legal.2) h

  once_held : (k : ItemKey) (x y : Item) → Holds items x → Holds items y → has_key x k ≡ true → has_key y k ≡ true → x ≡ y
  once_held k x y h g p q = once k legal.0 legal.1 x y (listed x h) (listed y g) p q

  not_again : (k : ItemKey) (x : Item) → Holds items x → has_key x k ≡ true → prelude_has k ≡ true → ⊥
  not_again k x h p q = true≢false (sym q ∙ not_before k legal.0 legal.1 x (listed x h) p)

  pub names_once : NamesStandOnce items
  names_once = record {
    types = λ x y c h g p q. once_held (type_key c) x y h g (type_named x c p) (type_named y c q);
    constants = λ x y c h g p q. once_held (constant_key c) x y h g (constant_named x c p) (constant_named y c q);
    axioms = λ x y n h g p q. once_held (axiom_key n) x y h g (axiom_named x n p) (axiom_named y n q);
    no_type_again = λ x c n h p i. not_again (type_key c) x h (type_named x c p) (any_contained (λ d. bytes_eq c d.0) prelude_types (c, n) i (same c c refl));
    no_constant_again = λ x c a h p i. not_again (constant_key c) x h (constant_named x c p) (any_contained (λ d. bytes_eq c d.0) prelude_constants (c, a) i (same c c refl));
    no_axiom_again = λ x n h p i. not_again (axiom_key n) x h (axiom_named x n p) (any_contained (bytes_eq n) prelude_axioms n i (same n n refl));
  }
