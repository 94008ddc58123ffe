-- What the tests of types and terms let through is well typed in the words of the simple theory of types.
use Rattle.std.proofs.Common.{◌≡◌, ℕ, zero, suc, inl, inr, List, [], ◌∷◌, refl, ap, sym, ◌∙◌, Bool, true, false, cond, ◌&&◌, ◌==◌, Option, Some, None, bytes_eq, arith}
use Rattle.std.specs.Prelude.{Contains}
use Rattle.std.specs.Option.{option_map, option_and_then}
use mathlib.Core.Bool.{true≢false}
use Rattle.std.specs.List.{list_any}
use Rattle.std.proofs.lemmas.Bool.{and_parts, or_cases}
use Rattle.std.proofs.lemmas.Bool.Decides.{nat_tests}
use Rattle.std.proofs.lemmas.Slice.Eq.{bytes_eq-Decides}
use Rattle.hol_types.specs.Tree.{TypeTree, TypeList, TyVar, TyApp, no_types, more_types, types_count}
use Rattle.hol_types.specs.Fun.{fun_type}
use Rattle.hol_terms.specs.Named.{applied_type}
use Rattle.hol_terms.specs.Nameless.{Nameless, free, bound, fixed, app, lam, base_of, nameless_type}
use Rattle.hol_terms.proofs.Typing.{applied_is}
use Rattle.hol_subst.proofs.Typing.{mapped_part}
use Rattle.hol_formulas.specs.Constants.{is_constructor, is_constant_at, is_instance, is_instance_of, generic_in, prelude_types, prelude_constants, prelude_generic}
use Rattle.hol_formulas.proofs.Instance.{subst_of_instance}
use Rattle.hol_kernel.specs.Item.{Item}
use Rattle.hol_kernel.specs.Items.{Items, in_order, Holds}
use Rattle.hol_kernel.specs.Signature.{has_arity, has_constant, makes_type, makes_constant, item_types, item_constants}
use Rattle.hol_kernel.specs.Typing.{is_type, are_types, is_base, is_known, HasType}
use Rattle.hol_kernel.proofs.Members.{Among, itself}
use Rattle.hol_kernel.proofs.Ordered.{in_sorting}
use Rattle.hol_kernel.proofs.ItemOrder.{total, only}
use Rattle.hol_kernel.proofs.SortedSets.{any_some, some_any}
use Rattle.hol_model.specs.WellTyped.{IsConstructor, Stands, AllStand, IsConstant, IsOfType}

-- ---- what hol_kernel proves too, by way of more: here these stand on little, so that tests/weaker.py takes few files along with an edit of typing

held : (items : Items) (x : Item) → Among x (in_order items) → Holds items x
held items x h = sym (in_sorting total only items x) ∙ some_any _ (in_order items) x h (itself total only x)

some_is : (s t : TypeTree) → Some s ≡ Some t → s ≡ t
some_is s t e = cc

known_typed : (items : Items) (t : Nameless) (a : TypeTree) → HasType items t a → (is_known items t ≡ true) × (nameless_type [] t ≡ Some a)
known_typed items t a h = by (is_known items t) refl h
  where
    by : (b : Bool) → is_known items t ≡ b → cond b (nameless_type [] t) None ≡ Some a → (is_known items t ≡ true) × (nameless_type [] t ≡ Some a)
    by true e g = (e, g)
    by false e g = absurd (cc)

app_parts : (env : List TypeTree) (f x : Nameless) (s : TypeTree) → nameless_type env (app f x) ≡ Some s → (t : TypeTree) × (nameless_type env f ≡ Some (fun_type t s)) × (nameless_type env x ≡ Some t)
app_parts env f x s e = by (nameless_type env f) (nameless_type env x) refl refl e
  where
    by : (o p : Option TypeTree) → nameless_type env f ≡ o → nameless_type env x ≡ p → option_and_then (λ a. option_and_then (λ b. applied_type a b) p) o ≡ Some s → (t : TypeTree) × (nameless_type env f ≡ Some (fun_type t s)) × (nameless_type env x ≡ Some t)
    by None p q r g = absurd (cc)
    by (Some a) None q r g = absurd (cc)
    by (Some a) (Some b) q r g = (b, q ∙ ap Some (applied_is a b s g), r)

-- ---- lists

abbrev Pair : Type 0
Pair = List ℕ × TypeTree

later : {X : Type 0} (x y : X) (xs : List X) → Contains xs x → Contains (y ∷ xs) x
later x y xs h = (suc h.0, omega (arith, h.1), h.2)

-- where a test that one element alone passes holds of some element, the list has that one
only_one : {X : Type 0} (p : X → Bool) (x : X) (xs : List X) → ((y : X) → p y ≡ true → y ≡ x) → list_any p xs ≡ true → Contains xs x
only_one p x [] only e = absurd (true≢false (sym e))
only_one p x (y ∷ xs) only e =
    elim (or_cases (p y) (list_any p xs) e) [
      | inl i ↦ (zero, omega arith, only y i)
      | inr i ↦ later x y xs (only_one p x xs only i)
    ]

-- ---- constructors and types

constructor_is : (c : List ℕ) (n : ℕ) (p : List ℕ × ℕ) → is_constructor c n p ≡ true → p ≡ (c, n)
constructor_is c n p e =
    let q = and_parts (bytes_eq c p.0) (n == p.1) e in
    let name : c ≡ p.0 = (bytes_eq-Decides c p.0).0 q.0 in
    let test : (n == p.1) ≡ true = q.1 in
    let count : n ≡ p.1 = grind (arith, nat_tests) in
    λ i. (sym name i, sym count i)

stands_constructor : (items : Items) (c : List ℕ) (n : ℕ) → has_arity items c n ≡ true → IsConstructor items c n
stands_constructor items c n h =
    elim (or_cases (list_any (is_constructor c n) prelude_types) (list_any (makes_type c n) (in_order items)) h) [
      | inl i ↦ inl (only_one (is_constructor c n) (c, n) prelude_types (constructor_is c n) i)
      | inr i ↦
          let r = any_some (makes_type c n) (in_order items) i in
          inr (r.0, held items r.0 r.1, only_one (is_constructor c n) (c, n) (item_types r.0) (constructor_is c n) r.2)
    ]

module _ (items : Items) where
  mutual
    pub stands : (a : TypeTree) → is_type items a ≡ true → Stands items a
    stands (TyVar a) e = tt
    stands (TyApp c ts) e =
        let p = and_parts (has_arity items c (types_count ts)) (are_types items ts) e in (stands_constructor items c (types_count ts) p.0, all_stand ts p.1)

    all_stand : (ts : TypeList) → are_types items ts ≡ true → AllStand items ts
    all_stand no_types e = tt
    all_stand (more_types t ts) e = let p = and_parts (is_type items t) (are_types items ts) e in (stands t p.0, all_stand ts p.1)

-- ---- constants

-- one of the generic types of c has a for an instance
abbrev HasGeneric : List Pair → List ℕ → TypeTree → Type 0
HasGeneric cs c a = (g : TypeTree) × (is_instance g a ≡ true) × Contains cs (c, g)

later_generic : (p : Pair) (cs : List Pair) (c : List ℕ) (a : TypeTree) → HasGeneric cs c a → HasGeneric (p ∷ cs) c a
later_generic p cs c a h = (h.0, h.1, later (c, h.0) p cs h.2)

first_generic : (p : Pair) (cs : List Pair) (c : List ℕ) (a : TypeTree) → bytes_eq c p.0 ≡ true → is_instance p.1 a ≡ true → HasGeneric (p ∷ cs) c a
first_generic p cs c a e i =
    let name : c ≡ p.0 = (bytes_eq-Decides c p.0).0 e in
    let is : p ≡ (c, p.1) = λ j. (sym name j, p.1) in
    (p.1, i, (zero, omega arith, is))

made_generic : (cs : List Pair) (c : List ℕ) (a : TypeTree) → list_any (is_constant_at c a) cs ≡ true → HasGeneric cs c a
made_generic [] c a e = absurd (true≢false (sym e))
made_generic (p ∷ cs) c a e =
    elim (or_cases (is_constant_at c a p) (list_any (is_constant_at c a) cs) e) [
      | inl i ↦ let q = and_parts (bytes_eq c p.0) (is_instance p.1 a) i in first_generic p cs c a q.0 q.1
      | inr i ↦ later_generic p cs c a (made_generic cs c a i)
    ]

listed_generic : (cs : List Pair) (c : List ℕ) (a : TypeTree) → is_instance_of (generic_in cs c) a ≡ true → HasGeneric cs c a
listed_generic [] c a e = absurd (true≢false (sym e))
listed_generic (p ∷ cs) c a e = by (bytes_eq c p.0) refl e (listed_generic cs c a)
  where
    by : (b : Bool) → bytes_eq c p.0 ≡ b → is_instance_of (cond b (Some p.1) (generic_in cs c)) a ≡ true → (is_instance_of (generic_in cs c) a ≡ true → HasGeneric cs c a) → HasGeneric (p ∷ cs) c a
    by true q i more = first_generic p cs c a q i
    by false q i more = later_generic p cs c a (more i)

stands_constant : (items : Items) (c : List ℕ) (a : TypeTree) → has_constant items c a ≡ true → IsConstant items c a
stands_constant items c a h =
    elim (or_cases (is_instance_of (prelude_generic c) a) (list_any (makes_constant c a) (in_order items)) h) [
      | inl i ↦ let g = listed_generic prelude_constants c a i in (g.0, subst_of_instance g.0 a g.1, inl g.2)
      | inr i ↦
          let r = any_some (makes_constant c a) (in_order items) i in
          let g = made_generic (item_constants r.0) c a r.2 in
          (g.0, subst_of_instance g.0 a g.1, inr (r.0, held items r.0 r.1, g.2))
    ]

-- ---- terms

module _ (items : Items) where
  of_type : (env : List TypeTree) (t : Nameless) (a : TypeTree) → is_known items t ≡ true → nameless_type env t ≡ Some a → IsOfType items env t a
  of_type env (free v) a known e = (stands items v.1 known, some_is v.1 a e)
  of_type env (bound i) a known e = e
  of_type env (fixed c s) a known e =
      let p = and_parts (is_type items s) (has_constant items c s) known in (stands items s p.0, stands_constant items c s p.1, some_is s a e)
  of_type env (app f x) a known e =
      let p = and_parts (is_known items f) (is_known items x) known in
      let q = app_parts env f x a e in
      (q.0, of_type env f (fun_type q.0 a) p.0 q.1, of_type env x q.0 p.1 q.2)
  of_type env (lam n s t) a known e =
      let p = and_parts (is_base n) (is_type items s && is_known items t) known in
      let q = and_parts (is_type items s) (is_known items t) p.1 in
      let r = mapped_part (λ u. fun_type s u) (nameless_type (s ∷ env) t) a e in
      let is : fun_type s r.0 ≡ a = some_is (fun_type s r.0) a (sym (ap (option_map (λ u. fun_type s u)) r.1) ∙ e) in
      ((bytes_eq-Decides (base_of n) n).0 p.0, stands items s q.0, (r.0, of_type (s ∷ env) t r.0 q.1 r.1, is))

  pub typed_is : (t : Nameless) (a : TypeTree) → HasType items t a → IsOfType items [] t a
  typed_is t a h = let p = known_typed items t a h in of_type [] t a p.0 p.1
