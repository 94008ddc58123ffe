-- What holds over a set of items holds over every larger one.
use Rattle.std.specs.Prelude.{◌≡◌, ℕ, Bool, true, false, cond, ◌&&◌, ◌||◌, List, [], ◌∷◌, Option, Some, None, refl}
use Rattle.std.proofs.Common.{ap, sym, ◌∙◌, subst}
use Rattle.std.proofs.lemmas.Bool.{and_parts}
use mathlib.Core.Bool.{true≢false}
use Rattle.std.specs.List.{list_any, list_all}
use Rattle.hol_types.specs.Tree.{TypeTree, TypeList, TyVar, TyApp, no_types, more_types}
use Rattle.hol_terms.specs.Nameless.{Nameless, free, bound, fixed, app, lam, base_of, nameless_type}
use Rattle.hol_kernel.specs.Item.{Item, declared_type, declared_constant, defined_constant, defined_type, declared_axiom}
use Rattle.hol_kernel.specs.Items.{Items, in_order, Holds, IsWithin}
use Rattle.hol_kernel.specs.Sequent.{Hyps}
use Rattle.hol_formulas.specs.Equation.{bool_type}
use Rattle.hol_kernel.specs.Signature.{has_arity, makes_type, makes_constant, has_constant}
use Rattle.hol_formulas.specs.Constants.{is_instance_of, prelude_generic, is_constructor, prelude_types}
use Rattle.hol_kernel.specs.Typing.{types_count, is_type, are_types, is_base, is_known, is_type_at, has_type, type_over, HasType}
use Rattle.hol_kernel.specs.Derivation.{Derives, by_refl, by_trans, by_mk_comb, by_abs, by_beta, by_assume, by_eq_mp, by_deduct_antisym, by_inst_type, by_inst, by_postulate, by_axiom, by_definition, by_abs_rep, by_rep_abs}
use Rattle.hol_kernel.specs.Legal.{IsSound}
use Rattle.hol_kernel.proofs.Members.{Among, itself, equal_keys}
use Rattle.hol_kernel.proofs.Ordered.{in_sorting}
use Rattle.hol_kernel.proofs.SortedSets.{any_some, some_any}
use Rattle.hol_kernel.proofs.ItemOrder.{total, only}

-- ---- the items in order are those of the set

pub held : (items : Items) (x : Item) → Among x (in_order items) → Holds items x
held items x h = sym (in_sorting total only items x) ∙ some_any _ (in_order items) x h (itself total only x)

pub ordered_held : (items : Items) (x : Item) → Holds items x → Among x (in_order items)
ordered_held items x h =
    let r = any_some _ (in_order items) (in_sorting total only items x ∙ h) in
    let is : x ≡ r.0 = equal_keys total only x r.0 r.2 in
    subst (λ (y : Item). Among y (in_order items)) (sym is) r.1

either : (a b c : Bool) → (b ≡ true → c ≡ true) → (a || b) ≡ true → (a || c) ≡ true
either true b c f e = refl
either false b c f e = f e

module _ (items more : Items) (within : IsWithin items more) where
  any_more : (p : Item → Bool) → list_any p (in_order items) ≡ true → list_any p (in_order more) ≡ true
  any_more p e =
      let r = any_some p (in_order items) e in
      some_any p (in_order more) r.0 (ordered_held more r.0 (within r.0 (held items r.0 r.1))) r.2

  pub has_arity_more : (c : List ℕ) (n : ℕ) → has_arity items c n ≡ true → has_arity more c n ≡ true
  has_arity_more c n = either (list_any (is_constructor c n) prelude_types) _ _ (any_more (makes_type c n))

  pub has_constant_more : (c : List ℕ) (a : TypeTree) → has_constant items c a ≡ true → has_constant more c a ≡ true
  has_constant_more c a = either (is_instance_of (prelude_generic c) a) _ _ (any_more (makes_constant c a))

  mutual
    pub is_type_more : (a : TypeTree) → is_type items a ≡ true → is_type more a ≡ true
    is_type_more (TyVar v) e = refl
    is_type_more (TyApp c ts) e =
        let p = and_parts (has_arity items c (types_count ts)) (are_types items ts) e in λ i. has_arity_more c (types_count ts) p.0 i && are_types_more ts p.1 i

    pub are_types_more : (ts : TypeList) → are_types items ts ≡ true → are_types more ts ≡ true
    are_types_more no_types e = refl
    are_types_more (more_types t ts) e =
        let p = and_parts (is_type items t) (are_types items ts) e in λ i. is_type_more t p.0 i && are_types_more ts p.1 i

  pub is_known_more : (t : Nameless) → is_known items t ≡ true → is_known more t ≡ true
  is_known_more (free v) e = is_type_more v.1 e
  is_known_more (bound i) e = refl
  is_known_more (fixed c s) e =
      let p = and_parts (is_type items s) (has_constant items c s) e in λ i. is_type_more s p.0 i && has_constant_more c s p.1 i
  is_known_more (app f x) e = let p = and_parts (is_known items f) (is_known items x) e in λ i. is_known_more f p.0 i && is_known_more x p.1 i
  is_known_more (lam a s b) e =
      let p = and_parts (is_base a) (is_type items s && is_known items b) e in
      let q = and_parts (is_type items s) (is_known items b) p.1 in
      λ i. p.0 i && (is_type_more s q.0 i && is_known_more b q.1 i)

  pub typed_wider : (t : Nameless) (a : TypeTree) → HasType items t a → HasType more t a
  typed_wider t a h = by (is_known items t) refl h
    where
      by : (b : Bool) → is_known items t ≡ b → cond b (nameless_type [] t) None ≡ Some a → HasType more t a
      by true e h = ap (λ b. cond b (nameless_type [] t) None) (is_known_more t e) ∙ h
      by false e h = absurd (cc)

  pub has_type_more : (t : Nameless) (a : TypeTree) → has_type items t a ≡ true → has_type more t a ≡ true
  has_type_more t a e = by (type_over items t) refl e
    where
      by : (o : Option TypeTree) → type_over items t ≡ o → is_type_at o a ≡ true → has_type more t a ≡ true
      by None p e = absurd (true≢false (sym e))
      by (Some s) p e = ap (λ o. is_type_at o a) (typed_wider t s p) ∙ e

  pub all_more : {X : Type 0} (p q : X → Bool) → ((x : X) → p x ≡ true → q x ≡ true) → (xs : List X) → list_all p xs ≡ true → list_all q xs ≡ true
  all_more p q f [] e = refl
  all_more p q f (x ∷ xs) e = let r = and_parts (p x) (list_all p xs) e in λ i. f x r.0 i && all_more p q f xs r.1 i

  pub derives_more : (hs : Hyps) (c : Nameless) → Derives items hs c → Derives more hs c
  derives_more _ _ (by_refl t a h) = by_refl t a (typed_wider t a h)
  derives_more _ _ (by_trans hs ks a b s m n t d e same) = by_trans hs ks a b s m n t (derives_more _ _ d) (derives_more _ _ e) same
  derives_more _ _ (by_mk_comb hs ks a b f g x y d e) = by_mk_comb hs ks a b f g x y (derives_more _ _ d) (derives_more _ _ e)
  derives_more _ _ (by_abs hs a v l r stands new d) = by_abs hs a v l r (is_type_more v.1 stands) new (derives_more _ _ d)
  derives_more _ _ (by_beta a v b h new) = by_beta a v b (typed_wider (app (lam (base_of v.0) v.1 b) (free v)) a h) new
  derives_more _ _ (by_assume p h) = by_assume p (typed_wider p bool_type h)
  derives_more _ _ (by_eq_mp hs ks a l r m d e same) = by_eq_mp hs ks a l r m (derives_more _ _ d) (derives_more _ _ e) same
  derives_more _ _ (by_deduct_antisym hs ks p q d e) = by_deduct_antisym hs ks p q (derives_more _ _ d) (derives_more _ _ e)
  derives_more _ _ (by_inst_type hs p pairs ok d) =
      by_inst_type hs p pairs (all_more (λ p. is_type items p.0) (λ p. is_type more p.0) (λ p. is_type_more p.0) pairs ok) (derives_more _ _ d)
  derives_more _ _ (by_inst hs p pairs ok d) =
      by_inst hs p pairs (all_more (λ p. has_type items p.0 p.1.1) (λ p. has_type more p.0 p.1.1) (λ p. has_type_more p.0 p.1.1) pairs ok) (derives_more _ _ d)
  derives_more _ _ (by_postulate which) = by_postulate which
  derives_more _ _ (by_axiom n p h typed) = by_axiom n p (within _ h) (typed_wider p bool_type typed)
  derives_more _ _ (by_definition c r a h typed) = by_definition c r a (within _ h) (typed_wider r a typed)
  derives_more _ _ (by_abs_rep c abs rep p s h typed) = by_abs_rep c abs rep p s (within _ h) (typed_wider p _ typed)
  derives_more _ _ (by_rep_abs c abs rep p s h typed) = by_rep_abs c abs rep p s (within _ h) (typed_wider p _ typed)

  pub sound_more : (x : Item) → IsSound items x → IsSound more x
  sound_more (declared_type c n) s = tt
  sound_more (declared_constant c a) s = is_type_more a s
  sound_more (defined_constant c r) s = (s.0, record { typed = typed_wider r s.0 s.1.typed; closed = s.1.closed; reflected = s.1.reflected })
  sound_more (defined_type c abs rep p) s = (
    s.0,
    (
      s.1.0,
      record {
        apart = s.1.1.apart;
        typed = typed_wider p _ s.1.1.typed;
        closed = s.1.1.closed;
        inhabited = derives_more _ _ s.1.1.inhabited;
      },
    ),
  )
  sound_more (declared_axiom n p) s = typed_wider p bool_type s
