-- What a legal set says of the items that it holds.
use Rattle.std.specs.Prelude.{◌≡◌, ℕ, Bool, true, false, cond, List, [], ◌∷◌, bytes_eq, Option, Some, None, refl}
use Rattle.std.proofs.Common.{ap, sym, ◌∙◌, subst, inl, inr}
use Rattle.std.specs.FinSet as set
use Rattle.std.proofs.lemmas.Slice.Eq.{bytes_eq-Decides}
use Rattle.hol_types.specs.Tree.{TypeTree}
use Rattle.hol_terms.specs.Named.{Named, named_type}
use Rattle.hol_terms.specs.Nameless.{Nameless, nameless, nameless_type}
use Rattle.hol_terms.proofs.Typing.{type_outside}
use Rattle.hol_kernel.specs.Item.{Item, declared_type, declared_constant, defined_constant, defined_type, declared_axiom}
use Rattle.hol_kernel.specs.Items.{Items, in_order, Holds, IsWithin, IsSubset, item_set}
use Rattle.hol_kernel.specs.Sequent.{Hyps, no_hyps}
use Rattle.hol_formulas.specs.Equation.{bool_type}
use Rattle.hol_kernel.specs.Typing.{is_known, HasType}
use Rattle.hol_kernel.specs.Legal.{IsSound, IsLegal, IsLegalSet}
use Rattle.hol_kernel.specs.Derivation.{Derives, by_axiom}
use Rattle.hol_kernel.specs.Theorem.{Theorem, IsDerived}
use Rattle.hol_kernel.specs.Extends.{IsAxiomOf}
use Rattle.hol_kernel.specs.Clashing.{axiom_at, first_of_two, axiom_in}
use Rattle.hol_kernel.proofs.Members.{Among, in_insert_old, in_insert_cases, not_in_empty}
use Rattle.hol_kernel.proofs.ItemOrder.{total, only}
use Rattle.hol_kernel.proofs.Weaken.{held, ordered_held, sound_more, derives_more}

-- ---- each item meets its condition over the whole set

sound_in : (order : List Item) → IsLegal order → (y : Item) → Holds (item_set order) y → IsSound (item_set order) y
sound_in [] legal y h = absurd (not_in_empty total only y h)
sound_in (x ∷ earlier) legal y h =
    let e : Items = item_set earlier in
    let within : IsWithin e (set.insert e x) = λ z i. in_insert_old total only e x z i in
    elim (in_insert_cases total only e x y h) [
      | inl is ↦ subst (λ (z : Item). IsSound (set.insert e x) z) (sym is) (sound_more e (set.insert e x) within x legal.1)
      | inr i ↦ sound_more e (set.insert e x) within y (sound_in earlier legal.2 y i)
    ]

pub sound_held : (items : Items) → IsLegalSet items → (y : Item) → Holds items y → IsSound items y
sound_held items p y h =
    subst (λ (s : Items). IsSound s y) p.2 (sound_in p.0 p.1 y (subst (λ (s : Items). Holds s y) (sym p.2) h))

-- ---- the type of a well typed named term

pub named_of_typed : (items : Items) (t : Named) (a : TypeTree) → HasType items (nameless [] t) a → named_type t ≡ Some a
named_of_typed items t a h = sym (type_outside t) ∙ by (is_known items (nameless [] t)) h
  where
    by : (b : Bool) → cond b (nameless_type [] (nameless [] t)) None ≡ Some a → nameless_type [] (nameless [] t) ≡ Some a
    by true h = h
    by false h = absurd (cc)

-- ---- a derivation over other names of its parts

pub along : (b c : Items) (h k : Hyps) (s t : Nameless) → c ≡ b → k ≡ h → t ≡ s → Derives b h s → Derives c k t
along b c h k s t p q r d =
    subst (λ (x : Items). Derives x k t) (sym p) (subst (λ (x : Hyps). Derives b x t) (sym q) (subst (λ (x : Nameless). Derives b h x) (sym r) d))

-- ---- axioms

axiom_here : (name : List ℕ) (x : Item) (p : Nameless) → axiom_at name x ≡ Some p → x ≡ declared_axiom name p
axiom_here name (declared_axiom n q) p e = by (bytes_eq name n) refl e
  where
    by : (b : Bool) → bytes_eq name n ≡ b → cond b (Some q) None ≡ Some p → declared_axiom n q ≡ declared_axiom name p
    by true h e = let f : q ≡ p = cc in λ i. declared_axiom (sym ((bytes_eq-Decides name n).0 h) i) (f i)
    by false h e = absurd (cc)
axiom_here name (declared_constant c a) p e = absurd (cc)
axiom_here name (defined_constant c r) p e = absurd (cc)
axiom_here name (declared_type c n) p e = absurd (cc)
axiom_here name (defined_type c abs rep q) p e = absurd (cc)

axiom_among : (name : List ℕ) (xs : List Item) (p : Nameless) → axiom_in name xs ≡ Some p → Among (declared_axiom name p) xs
axiom_among name [] p e = absurd (cc)
axiom_among name (x ∷ xs) p e = by (axiom_at name x) refl e (axiom_among name xs p)
  where
    by : (o : Option Nameless) → axiom_at name x ≡ o → first_of_two o (axiom_in name xs) ≡ Some p → (axiom_in name xs ≡ Some p → Among (declared_axiom name p) xs) → Among (declared_axiom name p) (x ∷ xs)
    by None h e rest = inr (rest e)
    by (Some q) h e rest = inl (sym (axiom_here name x p (h ∙ e)))

pub axiom_found : (items : Items) (name : List ℕ) (p : Nameless) → axiom_in name (in_order items) ≡ Some p → Holds items (declared_axiom name p)
axiom_found items name p e = held items (declared_axiom name p) (axiom_among name (in_order items) p e)

axiom_itself : (name : List ℕ) (p : Nameless) → axiom_at name (declared_axiom name p) ≡ Some p
axiom_itself name p = ap (λ b. cond b (Some p) None) ((bytes_eq-Decides name name).1 refl)

none_among : (name : List ℕ) (xs : List Item) (p : Nameless) → axiom_in name xs ≡ None → Among (declared_axiom name p) xs → ⊥
none_among name [] p e h = h
none_among name (x ∷ xs) p e h = by (axiom_at name x) refl e h (none_among name xs p)
  where
    by : (o : Option Nameless) → axiom_at name x ≡ o → first_of_two o (axiom_in name xs) ≡ None → Among (declared_axiom name p) (x ∷ xs) → (axiom_in name xs ≡ None → Among (declared_axiom name p) xs → ⊥) → ⊥
    by None g e (inl is) rest = let f : None ≡ Some p = sym g ∙ ap (axiom_at name) (sym is) ∙ axiom_itself name p in cc
    by None g e (inr i) rest = rest e i
    by (Some q) g e h rest = cc

pub no_axiom : (items : Items) (name : List ℕ) (th : Theorem) → axiom_in name (in_order items) ≡ None → IsAxiomOf items name th → ⊥
no_axiom items name th e d = none_among name (in_order items) d.0 e (ordered_held items (declared_axiom name d.0) d.1)

-- what the program makes of an axiom
pub axiom_derived : (items : Items) (name : List ℕ) (own : Items) (hs : Hyps) (p concl : Named) → IsLegalSet items → own ≡ items → hs ≡ no_hyps → concl ≡ p → Holds items (declared_axiom name (nameless [] p)) → IsDerived own hs concl
axiom_derived items name own hs p concl legal b h c there =
    let typed : HasType items (nameless [] p) bool_type = sound_held items legal (declared_axiom name (nameless [] p)) there in
    record {
      derives = along items own no_hyps hs (nameless [] p) (nameless [] concl) b h (ap (nameless []) c) (by_axiom name (nameless [] p) there typed);
      typed = ap named_type c ∙ named_of_typed items p bool_type typed;
    }

-- ---- a larger basis

pub wider_derived : (items more own : Items) (hs ks : Hyps) (s t : Nameless) → IsSubset items more → own ≡ more → ks ≡ hs → t ≡ s → Derives items hs s → Derives own ks t
wider_derived items more own hs ks s t within b h c d = along more own hs ks s t b h c (derives_more items more (set.is_subset-contains total items more within) hs s d)
