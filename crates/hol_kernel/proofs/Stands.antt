-- Where the types and constants of terms stand, those of what the rules make of them stand too.
use Rattle.std.specs.Prelude.{◌≡◌, ℕ, zero, suc, ◌+◌, ◌-◌, ◌==◌, nat_lt, Bool, true, false, cond, ◌&&◌, ◌||◌, List, [], ◌∷◌, bytes_eq, Option, Some, None, unwrap_or, slice_get, refl}
use Rattle.std.specs.Option.{option_map, option_and_then}
use Rattle.std.specs.List.{list_any}
use Rattle.std.proofs.Common.{ap, sym, ◌∙◌}
use Rattle.std.proofs.lemmas.Bool.{and_parts}
use mathlib.Core.Bool.{true≢false}
use Rattle.hol_types.specs.Tree.{TypeTree, TypeList, TyVar, TyApp, no_types, more_types}
use Rattle.hol_types.specs.Fun.{fun_type}
use Rattle.hol_types.specs.Equal.{variable_eq}
use Rattle.hol_types.specs.Subst.{type_lookup, type_for, type_subst, types_subst}
use Rattle.hol_types.proofs.SubstLaws.{subst_none}
use Rattle.hol_terms.specs.Named.{applied_type}
use Rattle.hol_terms.specs.Nameless.{Nameless, free, bound, fixed, app, lam, nameless_type}
use Rattle.hol_terms.specs.Alpha.{strip}
use Rattle.hol_subst.specs.Shift.{shift}
use Rattle.hol_subst.specs.Closing.{close, open_with, bind}
use Rattle.hol_subst.specs.Substitution.{term_lookup, term_for, term_subst, types_inst}
use Rattle.hol_subst.proofs.Typing.{mapped_part}
use Rattle.hol_terms.proofs.Typing.{applied_is}
use Rattle.hol_subst.proofs.TypeLaws.{PairsFit}
use Rattle.hol_kernel.specs.Item.{Item}
use Rattle.hol_kernel.specs.Items.{Items, in_order}
use Rattle.hol_kernel.specs.Signature.{has_arity, has_constant, makes_constant, item_constants}
use Rattle.hol_formulas.specs.Constants.{is_constant_at, is_instance, is_instance_of, prelude_generic}
use Rattle.hol_kernel.specs.Typing.{types_count, is_type, are_types, is_base, is_known, has_type, are_types_for, are_typed_for}
use Rattle.hol_kernel.proofs.Declared.{has_type_is}
use Rattle.hol_formulas.proofs.Instance.{Pairs, subst_of_instance, instance_of_subst}
use Rattle.hol_kernel.proofs.Typed.{base_is_base}
use Rattle.hol_kernel.proofs.Variables.{known_typed}
pub use Rattle.std.proofs.lemmas.Bool.{and_parts as both}

either : (a b c d : Bool) → (a ≡ true → c ≡ true) → (b ≡ true → d ≡ true) → (a || b) ≡ true → (c || d) ≡ true
either true b c d f g e = ap (λ k. k || d) (f refl)
either false b true d f g e = refl
either false b false d f g e = g e

pub some_is : (s t : TypeTree) → Some s ≡ Some t → s ≡ t
some_is s t e = cc

-- ---- applications

-- what a term that is an application says of its parts
pub app_parts : (env : List TypeTree) (f x : Nameless) (s : TypeTree) → nameless_type env (app f x) ≡ Some s → (t : TypeTree) × (nameless_type env f ≡ Some (fun_type t s)) × (nameless_type env x ≡ Some t)
app_parts env f x s e = by (nameless_type env f) (nameless_type env x) refl refl e
  where
    by : (o p : Option TypeTree) → nameless_type env f ≡ o → nameless_type env x ≡ p → option_and_then (λ a. option_and_then (λ b. applied_type a b) p) o ≡ Some s → (t : TypeTree) × (nameless_type env f ≡ Some (fun_type t s)) × (nameless_type env x ≡ Some t)
    by None p q r g = absurd (cc)
    by (Some a) None q r g = absurd (cc)
    by (Some a) (Some b) q r g = (b, q ∙ ap Some (applied_is a b s g), r)

-- ---- instances of instances

-- the pairs of the first with the second in their types, then those of the second
after : Pairs → Pairs → Pairs
after [] pairs = pairs
after (p ∷ first) pairs = (type_subst pairs p.0, p.1) ∷ after first pairs

for_after : (first pairs : Pairs) (a : List ℕ) → type_for (after first pairs) a ≡ type_subst pairs (type_for first a)
unfolding after
for_after [] pairs a = refl
for_after (p ∷ first) pairs a = by (bytes_eq p.1 a) (for_after first pairs a)
  where
    by : (b : Bool) → type_for (after first pairs) a ≡ type_subst pairs (type_for first a) → unwrap_or (cond b (Some (type_subst pairs p.0)) (type_lookup (after first pairs) a)) (TyVar a) ≡ type_subst pairs (unwrap_or (cond b (Some p.0) (type_lookup first a)) (TyVar a))
    by true r = refl
    by false r = r

mutual
  subst_after : (first pairs : Pairs) (t : TypeTree) → type_subst (after first pairs) t ≡ type_subst pairs (type_subst first t)
  subst_after first pairs (TyVar a) = for_after first pairs a
  subst_after first pairs (TyApp c ts) = ap (TyApp c) (substs_after first pairs ts)

  substs_after : (first pairs : Pairs) (ts : TypeList) → types_subst (after first pairs) ts ≡ types_subst pairs (types_subst first ts)
  substs_after first pairs no_types = refl
  substs_after first pairs (more_types t ts) = λ i. more_types (subst_after first pairs t i) (substs_after first pairs ts i)

instance_inst : (pairs : Pairs) (generic a : TypeTree) → is_instance generic a ≡ true → is_instance generic (type_subst pairs a) ≡ true
instance_inst pairs generic a e =
    let r = subst_of_instance generic a e in
    instance_of_subst generic (type_subst pairs a) (after r.0 pairs) (subst_after r.0 pairs generic ∙ ap (type_subst pairs) r.1)

-- a type is an instance of itself
pub instance_itself : (a : TypeTree) → is_instance a a ≡ true
instance_itself a = instance_of_subst a a [] (subst_none a)

-- a constant stands at its generic type
pub constant_itself : (c name : List ℕ) (a generic : TypeTree) → bytes_eq c name ≡ true → generic ≡ a → is_constant_at c a (name, generic) ≡ true
constant_itself c name a generic e g = rw (e, g) (instance_itself a)

any_mono : {X : Type 0} (p q : X → Bool) → ((x : X) → p x ≡ true → q x ≡ true) → (xs : List X) → list_any p xs ≡ true → list_any q xs ≡ true
any_mono p q f [] e = absurd (true≢false (sym e))
any_mono p q f (x ∷ xs) e = either (p x) (list_any p xs) (q x) (list_any q xs) (f x) (any_mono p q f xs) e

module _ (items : Items) where
  -- ---- types

  pub fun_stands : (a b : TypeTree) → is_type items a ≡ true → is_type items b ≡ true → is_type items (fun_type a b) ≡ true
  fun_stands a b e f = rw (e, f) refl

  pub fun_parts_stand : (a b : TypeTree) → is_type items (fun_type a b) ≡ true → (is_type items a ≡ true) × (is_type items b ≡ true)
  fun_parts_stand a b e =
      let p = and_parts (is_type items a) (is_type items b && true) e in
      (p.0, (and_parts (is_type items b) true p.1).0)

  -- the types of binders stand
  abbrev pub AllStand : List TypeTree → Type 0
  AllStand [] = Unit {0}
  AllStand (s ∷ env) = (is_type items s ≡ true) × AllStand env

  bound_stands : (env : List TypeTree) (i : ℕ) (a : TypeTree) → AllStand env → slice_get env i ≡ Some a → is_type items a ≡ true
  bound_stands [] i a h e = absurd (cc)
  bound_stands (s ∷ env) zero a h e = ap (is_type items) (sym (some_is s a e)) ∙ h.0
  bound_stands (s ∷ env) (suc i) a h e = bound_stands env i a h.1 e

  -- the type of a term whose types stand stands
  pub type_stands : (env : List TypeTree) (n : Nameless) (a : TypeTree) → AllStand env → is_known items n ≡ true → nameless_type env n ≡ Some a → is_type items a ≡ true
  type_stands env (free v) a h k e = ap (is_type items) (sym (some_is v.1 a e)) ∙ k
  type_stands env (bound i) a h k e = bound_stands env i a h e
  type_stands env (fixed c s) a h k e = ap (is_type items) (sym (some_is s a e)) ∙ (and_parts (is_type items s) (has_constant items c s) k).0
  type_stands env (app f x) a h k e =
      let p = app_parts env f x a e in
      let q = and_parts (is_known items f) (is_known items x) k in
      (fun_parts_stand p.0 a (type_stands env f (fun_type p.0 a) h q.0 p.1)).1
  type_stands env (lam b s n) a h k e =
      let q = and_parts (is_base b) (is_type items s && is_known items n) k in
      let r = and_parts (is_type items s) (is_known items n) q.1 in
      let p = mapped_part (λ t. fun_type s t) (nameless_type (s ∷ env) n) a e in
      let is : fun_type s p.0 ≡ a = some_is (fun_type s p.0) a (sym (ap (option_map (λ t. fun_type s t)) p.1) ∙ e) in
      ap (is_type items) (sym is) ∙ fun_stands s p.0 r.0 (type_stands (s ∷ env) n p.0 (r.0, h) r.1 p.1)

  -- ---- base names, binding, opening

  pub known_strip : (n : Nameless) → is_known items n ≡ true → is_known items (strip n) ≡ true
  known_strip (free v) k = k
  known_strip (bound i) k = refl
  known_strip (fixed c s) k = k
  known_strip (app f x) k = let q = and_parts (is_known items f) (is_known items x) k in λ i. known_strip f q.0 i && known_strip x q.1 i
  known_strip (lam b s n) k =
      let q = and_parts (is_base b) (is_type items s && is_known items n) k in
      let r = and_parts (is_type items s) (is_known items n) q.1 in
      λ i. r.0 i && known_strip n r.1 i

  known_close : (v : List ℕ × TypeTree) (k : ℕ) (n : Nameless) → is_known items n ≡ true → is_known items (close v k n) ≡ true
  known_close v k (free w) e = by (variable_eq v w)
    where
      by : (b : Bool) → is_known items (cond b (bound k) (free w)) ≡ true
      by true = refl
      by false = e
  known_close v k (bound i) e = refl
  known_close v k (fixed c s) e = e
  known_close v k (app f x) e = let q = and_parts (is_known items f) (is_known items x) e in λ i. known_close v k f q.0 i && known_close v k x q.1 i
  known_close v k (lam b s n) e =
      let q = and_parts (is_base b) (is_type items s && is_known items n) e in
      let r = and_parts (is_type items s) (is_known items n) q.1 in
      λ i. q.0 i && (r.0 i && known_close v (k + 1) n r.1 i)

  pub known_bind : (v : List ℕ × TypeTree) (n : Nameless) → is_type items v.1 ≡ true → is_known items n ≡ true → is_known items (bind v n) ≡ true
  known_bind v n stands e = λ i. base_is_base v.0 i && (stands i && known_close v 0 n e i)

  known_shift : (m k : ℕ) (n : Nameless) → is_known items (shift m k n) ≡ is_known items n
  known_shift m k (free v) = refl
  known_shift m k (bound i) = refl
  known_shift m k (fixed c s) = refl
  known_shift m k (app f x) = λ i. known_shift m k f i && known_shift m k x i
  known_shift m k (lam b s n) = ap (λ t. is_base b && (is_type items s && t)) (known_shift m (k + 1) n)

  pub known_open : (r : Nameless) (k : ℕ) (n : Nameless) → is_known items r ≡ true → is_known items n ≡ true → is_known items (open_with r k n) ≡ true
  known_open r k (free w) h e = e
  known_open r k (bound i) h e = by (nat_lt i k) (i == k)
    where
      by : (a b : Bool) → is_known items (cond a (bound i) (cond b (shift k 0 r) (bound (i - 1)))) ≡ true
      by true b = refl
      by false true = known_shift k 0 r ∙ h
      by false false = refl
  known_open r k (fixed c s) h e = e
  known_open r k (app f x) h e = let q = and_parts (is_known items f) (is_known items x) e in λ i. known_open r k f h q.0 i && known_open r k x h q.1 i
  known_open r k (lam b s n) h e =
      let q = and_parts (is_base b) (is_type items s && is_known items n) e in
      let p = and_parts (is_type items s) (is_known items n) q.1 in
      λ i. q.0 i && (p.0 i && known_open r (k + 1) n h p.1 i)

  -- ---- types for type variables

  types_counted : (pairs : Pairs) (ts : TypeList) → types_count (types_subst pairs ts) ≡ types_count ts
  types_counted pairs no_types = refl
  types_counted pairs (more_types t ts) = ap suc (types_counted pairs ts)

  lookup_stands : (pairs : Pairs) (a : List ℕ) → are_types_for items pairs ≡ true → is_type items (type_for pairs a) ≡ true
  lookup_stands [] a ok = refl
  lookup_stands (p ∷ pairs) a ok =
      let q = and_parts (is_type items p.0) (are_types_for items pairs) ok in
      by (bytes_eq p.1 a) q.0 (lookup_stands pairs a q.1)
    where
      by : (b : Bool) → is_type items p.0 ≡ true → is_type items (type_for pairs a) ≡ true → is_type items (unwrap_or (cond b (Some p.0) (type_lookup pairs a)) (TyVar a)) ≡ true
      by true e f = e
      by false e f = f

  module _ (pairs : Pairs) (ok : are_types_for items pairs ≡ true) where
    mutual
      subst_stands : (t : TypeTree) → is_type items t ≡ true → is_type items (type_subst pairs t) ≡ true
      subst_stands (TyVar a) e = lookup_stands pairs a ok
      subst_stands (TyApp c ts) e =
          let p = and_parts (has_arity items c (types_count ts)) (are_types items ts) e in
          λ i. (ap (has_arity items c) (types_counted pairs ts) ∙ p.0) i && substs_stand ts p.1 i

      substs_stand : (ts : TypeList) → are_types items ts ≡ true → are_types items (types_subst pairs ts) ≡ true
      substs_stand no_types e = refl
      substs_stand (more_types t ts) e =
          let p = and_parts (is_type items t) (are_types items ts) e in λ i. subst_stands t p.0 i && substs_stand ts p.1 i

    generic_inst : (o : Option TypeTree) (a : TypeTree) → is_instance_of o a ≡ true → is_instance_of o (type_subst pairs a) ≡ true
    generic_inst None a e = e
    generic_inst (Some generic) a e = instance_inst pairs generic a e

    at_inst : (c : List ℕ) (a : TypeTree) (p : List ℕ × TypeTree) → is_constant_at c a p ≡ true → is_constant_at c (type_subst pairs a) p ≡ true
    at_inst c a p e = let q = and_parts (bytes_eq c p.0) (is_instance p.1 a) e in λ i. q.0 i && instance_inst pairs p.1 a q.1 i

    makes_inst : (c : List ℕ) (a : TypeTree) (x : Item) → makes_constant c a x ≡ true → makes_constant c (type_subst pairs a) x ≡ true
    makes_inst c a x e = any_mono (is_constant_at c a) (is_constant_at c (type_subst pairs a)) (at_inst c a) (item_constants x) e

    constant_inst : (c : List ℕ) (a : TypeTree) → has_constant items c a ≡ true → has_constant items c (type_subst pairs a) ≡ true
    constant_inst c a e =
        either (is_instance_of (prelude_generic c) a) (list_any (makes_constant c a) (in_order items))
        (is_instance_of (prelude_generic c) (type_subst pairs a)) (list_any (makes_constant c (type_subst pairs a)) (in_order items))
        (generic_inst (prelude_generic c) a)
        (any_mono (makes_constant c a) (makes_constant c (type_subst pairs a)) (makes_inst c a) (in_order items)) e

    pub known_inst : (n : Nameless) → is_known items n ≡ true → is_known items (types_inst pairs n) ≡ true
    known_inst (free v) e = subst_stands v.1 e
    known_inst (bound i) e = refl
    known_inst (fixed c s) e =
        let q = and_parts (is_type items s) (has_constant items c s) e in λ i. subst_stands s q.0 i && constant_inst c s q.1 i
    known_inst (app f x) e = let q = and_parts (is_known items f) (is_known items x) e in λ i. known_inst f q.0 i && known_inst x q.1 i
    known_inst (lam b s n) e =
        let q = and_parts (is_base b) (is_type items s && is_known items n) e in
        let r = and_parts (is_type items s) (is_known items n) q.1 in
        λ i. q.0 i && (subst_stands s r.0 i && known_inst n r.1 i)

  -- ---- terms for variables

  for_known : (pairs : List (Nameless × (List ℕ × TypeTree))) (v : List ℕ × TypeTree) → are_typed_for items pairs ≡ true → is_type items v.1 ≡ true → is_known items (term_for pairs v) ≡ true
  for_known [] v ok stands = stands
  for_known (p ∷ pairs) v ok stands =
      let q = and_parts (has_type items p.0 p.1.1) (are_typed_for items pairs) ok in
      by (variable_eq p.1 v) (known_typed items p.0 p.1.1 (has_type_is items p.0 p.1.1 q.0)).0 (for_known pairs v q.1 stands)
    where
      by : (b : Bool) → is_known items p.0 ≡ true → is_known items (term_for pairs v) ≡ true → is_known items (unwrap_or (cond b (Some p.0) (term_lookup pairs v)) (free v)) ≡ true
      by true e f = e
      by false e f = f

  pub typed_pairs_fit : (pairs : List (Nameless × (List ℕ × TypeTree))) → are_typed_for items pairs ≡ true → PairsFit pairs
  typed_pairs_fit [] ok = tt
  typed_pairs_fit (p ∷ pairs) ok =
      let q = and_parts (has_type items p.0 p.1.1) (are_typed_for items pairs) ok in
      ((known_typed items p.0 p.1.1 (has_type_is items p.0 p.1.1 q.0)).1, typed_pairs_fit pairs q.1)

  pub known_subst : (pairs : List (Nameless × (List ℕ × TypeTree))) → are_typed_for items pairs ≡ true → (k : ℕ) (n : Nameless) → is_known items n ≡ true → is_known items (term_subst pairs k n) ≡ true
  known_subst pairs ok k (free v) e = known_shift k 0 (term_for pairs v) ∙ for_known pairs v ok e
  known_subst pairs ok k (bound i) e = refl
  known_subst pairs ok k (fixed c s) e = e
  known_subst pairs ok k (app f x) e =
      let q = and_parts (is_known items f) (is_known items x) e in λ i. known_subst pairs ok k f q.0 i && known_subst pairs ok k x q.1 i
  known_subst pairs ok k (lam b s n) e =
      let q = and_parts (is_base b) (is_type items s && is_known items n) e in
      let r = and_parts (is_type items s) (is_known items n) q.1 in
      λ i. q.0 i && (r.0 i && known_subst pairs ok (k + 1) n r.1 i)
