-- Each derived sequent is well typed over its items: its hypotheses and its conclusion are of type bool.
use Rattle.std.specs.Prelude.{◌≡◌, ℕ, ◌==◌, true, false, ◌&&◌, ◌||◌, List, [], ◌∷◌, map, length, bytes_eq, codes, Some, not, refl}
use Rattle.std.specs.Option.{option_map, option_and_then}
use Rattle.std.specs.List.{list_any}
use Rattle.std.specs.FinSet as set
use Rattle.std.specs.Ordering.{eq_by_cmp}
use Rattle.std.proofs.Common.{ap, sym, ◌∙◌, subst, inl, inr, arith}
use Rattle.std.proofs.lemmas.Bool.Decides.{nat_tests}
use Rattle.std.proofs.lemmas.Slice.Eq.{bytes_eq-Decides}
use Rattle.hol_types.specs.Tree.{TypeTree, TyVar, type_list}
use Rattle.hol_types.specs.Fun.{fun_type, fun_parts}
use Rattle.hol_terms.specs.Nameless.{Nameless, free, fixed, app, lam, base_of, nameless_type}
use Rattle.hol_terms.specs.Alpha.{strip}
use Rattle.hol_terms.proofs.Typing.{type_outside, applied_fits}
use Rattle.hol_subst.specs.Closing.{bind, open_with}
use Rattle.hol_subst.specs.Substitution.{term_subst, types_inst}
use Rattle.hol_subst.proofs.Typing.{typed_closed, subst_type, mapped_part}
use Rattle.hol_subst.proofs.TypeLaws.{pairs_typed, inst_type, bind_type, open_type}
use Rattle.hol_kernel.specs.Item.{Item, defined_constant, defined_type}
use Rattle.hol_kernel.specs.Items.{Items, in_order, Holds}
use Rattle.hol_kernel.specs.Sequent.{Hyps, no_hyps, only_hyp, hyps_image}
use Rattle.hol_subst.specs.AlphaOrder.{nameless_cmp}
use Rattle.hol_formulas.specs.Equation.{bool_type, equality_type, equation}
use Rattle.hol_kernel.specs.Signature.{term_tyvars, new_type, has_arity, has_constant, makes_type, makes_constant, bijections, constant_of}
use Rattle.hol_formulas.specs.Constants.{is_constant_at, is_instance_of, prelude_generic, is_constructor, prelude_types}
use Rattle.hol_kernel.specs.Typing.{is_type, are_types, is_base, is_known, HasType}
use Rattle.hol_kernel.specs.NamedTyping.{is_known_named}
use Rattle.hol_formulas.specs.Prelude.{postulated, statement_of}
use Rattle.hol_kernel.specs.Bijections.{to_new, from_new, abs_rep, rep_abs}
use Rattle.hol_kernel.specs.Derivation.{Derives, by_refl, by_trans, by_mk_comb, by_abs, by_beta, by_assume, by_eq_mp, by_deduct_antisym, by_inst_type, by_inst, by_postulate, by_axiom, by_definition, by_abs_rep, by_rep_abs}
use Rattle.hol_kernel.specs.Theorem.{Theorem, IsWellTyped}
use Rattle.hol_formulas.specs.declared.postulate.Postulate.{Postulate}
use Rattle.hol_formulas.specs.declared.postulate.Postulate.TheVariants.{TDef, AndDef, ImpDef, ForallDef, ExistsDef, OrDef, FDef, NotDef, ExistsUniqueDef, EtaAx, SelectAx, OneOne, Onto, InfinityAx}
use Rattle.hol_kernel.proofs.HypothesisLists.{hyps_total, hyps_same}
use Rattle.hol_kernel.proofs.Members.{Among, in_insert_cases, in_union_cases, not_in_empty, or_right, from_list_among, among_from_list, from_list_items}
use Rattle.hol_kernel.proofs.SortedSets.{some_any}
use Rattle.hol_formulas.proofs.PartTypes.{postulated_typed}
use Rattle.hol_kernel.proofs.Sound.{strip_type}
use Rattle.hol_kernel.proofs.Stands.{both, some_is, app_parts, instance_itself, fun_stands, fun_parts_stand, type_stands, known_strip, known_bind, known_open, known_inst, typed_pairs_fit, known_subst}
use Rattle.hol_kernel.proofs.Steps.{is_type_app}
use Rattle.hol_kernel.proofs.Typed.{known_outside}
use Rattle.hol_kernel.proofs.Variables.{typed_known, known_typed, variable_typed, equation_typed}
use Rattle.hol_kernel.proofs.Weaken.{ordered_held}

-- ---- what is not the set's does not matter: the parameters of new types

params_counted : (names : List (List ℕ)) → length (map TyVar names) ≡ length names
params_counted [] = refl
params_counted (n ∷ names) = omega (arith, params_counted names)

module _ (items : Items) where
  params_stand : (names : List (List ℕ)) → are_types items (type_list (map TyVar names)) ≡ true
  params_stand [] = refl
  params_stand (n ∷ names) = params_stand names

  -- the type of a well typed term stands
  pub own_type_stands : (t : Nameless) (a : TypeTree) → HasType items t a → is_type items a ≡ true
  own_type_stands t a h = let p = known_typed items t a h in type_stands items [] t a tt p.0 p.1

  -- ---- equations and applications

  pub equation_of : (a : TypeTree) (l r : Nameless) → HasType items l a → HasType items r a → HasType items (equation a l r) bool_type
  equation_of a l r h g = equation_typed items a l r (own_type_stands l a h) h g

  -- what a well typed equation says of its sides
  pub sides_typed : (a b : TypeTree) (l r : Nameless) → HasType items (equation a l r) b → HasType items l a × HasType items r a
  sides_typed a b l r h =
      let p = known_typed items (equation a l r) b h in
      let outer = both (is_known items (app (fixed (codes "=") (equality_type a)) l)) (is_known items r) p.0 in
      let inner = both (is_known items (fixed (codes "=") (equality_type a))) (is_known items l) outer.0 in
      let s = app_parts [] (app (fixed (codes "=") (equality_type a)) l) r b p.1 in
      let t = app_parts [] (fixed (codes "=") (equality_type a)) l (fun_type s.0 b) s.1 in
      let is : fun_type a (fun_type a bool_type) ≡ fun_type t.0 (fun_type s.0 b) = some_is (equality_type a) (fun_type t.0 (fun_type s.0 b)) t.1 in
      let first : t.0 ≡ a = cc in
      let second : s.0 ≡ a = cc in
      (typed_known items l a inner.1 (t.2 ∙ ap Some first), typed_known items r a outer.1 (s.2 ∙ ap Some second))

  pub applied_typed : (a b : TypeTree) (f x : Nameless) → HasType items f (fun_type a b) → HasType items x a → HasType items (app f x) b
  applied_typed a b f x h g =
      let p = known_typed items f (fun_type a b) h in
      let q = known_typed items x a g in
      typed_known items (app f x) b (λ i. p.0 i && q.0 i) (rw (p.1, q.1) (applied_fits a b))

  -- terms that are equal up to bound names have one type
  one_type : (a b : TypeTree) (m n : Nameless) → strip m ≡ strip n → HasType items m a → HasType items n b → a ≡ b
  one_type a b m n same h g =
      some_is a b (sym (known_typed items m a h).1 ∙ sym (strip_type [] m) ∙ ap (nameless_type []) same ∙ strip_type [] n ∙ (known_typed items n b g).1)

  retyped : (a b : TypeTree) (t : Nameless) → a ≡ b → HasType items t a → HasType items t b
  retyped a b t e h = h ∙ ap Some e

  -- ---- binders

  bound_typed : (v : List ℕ × TypeTree) (a : TypeTree) (n : Nameless) → is_type items v.1 ≡ true → HasType items n a → HasType items (bind v n) (fun_type v.1 a)
  bound_typed v a n stands h =
      let p = known_typed items n a h in
      typed_known items (bind v n) (fun_type v.1 a) (known_bind items v n stands p.0) (bind_type v n a p.1)

  body_typed : (a : TypeTree) (v : List ℕ × TypeTree) (b : Nameless) → HasType items (app (lam (base_of v.0) v.1 b) (free v)) a → HasType items (open_with (free v) 0 b) a
  body_typed a v b h =
      let p = known_typed items (app (lam (base_of v.0) v.1 b) (free v)) a h in
      let known = both (is_known items (lam (base_of v.0) v.1 b)) (is_type items v.1) p.0 in
      let inner = both (is_base (base_of v.0)) (is_type items v.1 && is_known items b) known.0 in
      let body = both (is_type items v.1) (is_known items b) inner.1 in
      let parts = app_parts [] (lam (base_of v.0) v.1 b) (free v) a p.1 in
      let under = mapped_part (λ t. fun_type v.1 t) (nameless_type (v.1 ∷ []) b) (fun_type parts.0 a) parts.1 in
      let is : fun_type v.1 under.0 ≡ fun_type parts.0 a =
      some_is (fun_type v.1 under.0) (fun_type parts.0 a) (sym (ap (option_map (λ t. fun_type v.1 t)) under.1) ∙ parts.1) in
      let same : under.0 ≡ a = cc in
      typed_known items (open_with (free v) 0 b) a (known_open items (free v) 0 b known.1 body.1)
      (open_type (free v) v.1 [] b refl (typed_closed (v.1 ∷ []) b under.0 under.1) ∙ under.1 ∙ ap Some same)

  -- ---- sets of hypotheses

  abbrev AreFormulas : Hyps → Type 0
  AreFormulas hs = (p : Nameless) → set.contains hs p ≡ true → HasType items p bool_type

  stripped_typed : (p : Nameless) → HasType items p bool_type → HasType items (strip p) bool_type
  stripped_typed p h =
      let q = known_typed items p bool_type h in
      typed_known items (strip p) bool_type (known_strip items p q.0) (strip_type [] p ∙ q.1)

  none_formulas : AreFormulas no_hyps
  none_formulas p h = absurd (not_in_empty hyps_total hyps_same p h)

  only_formulas : (p : Nameless) → HasType items p bool_type → AreFormulas (only_hyp p)
  only_formulas p typed q h =
      elim (in_insert_cases hyps_total hyps_same no_hyps (strip p) q h) [
        | inl e ↦ subst (λ (r : Nameless). HasType items r bool_type) (sym e) (stripped_typed p typed)
        | inr i ↦ none_formulas q i
      ]

  union_formulas : (hs ks : Hyps) → AreFormulas hs → AreFormulas ks → AreFormulas (set.union hs ks)
  union_formulas hs ks f g q h = elim (in_union_cases hyps_total hyps_same hs ks q h) [ inl i ↦ f q i | inr i ↦ g q i ]

  removed_formulas : (hs : Hyps) (p : Nameless) → AreFormulas hs → AreFormulas (set.remove hs p)
  removed_formulas hs p f q h = f q (both (not (eq_by_cmp nameless_cmp q p)) (set.contains hs q) (sym (set.contains-remove hyps_total hs p q) ∙ h)).1

  among_mapped : (f : Nameless → Nameless) (hs : List Nameless) (q : Nameless) → Among q (map f hs) → (p : Nameless) × Among p hs × (q ≡ f p)
  among_mapped f [] q h = absurd h
  among_mapped f (p ∷ hs) q (inl e) = (p, inl refl, e)
  among_mapped f (p ∷ hs) q (inr h) = let r = among_mapped f hs q h in (r.0, inr r.1, r.2)

  image_formulas : (f : Nameless → Nameless) (hs : Hyps) → ((p : Nameless) → HasType items p bool_type → HasType items (f p) bool_type) → AreFormulas hs → AreFormulas (hyps_image f hs)
  image_formulas f hs keeps own q h =
      let r = among_mapped (λ p. strip (f p)) (set.items hs) q (among_from_list hyps_total hyps_same (map (λ p. strip (f p)) (set.items hs)) q h) in
      let there : set.contains hs r.0 ≡ true =
      ap (λ (s : Hyps). set.contains s r.0) (sym (from_list_items hyps_total hyps_same hs)) ∙ from_list_among hyps_total hyps_same (set.items hs) r.0 r.1 in
      subst (λ (p : Nameless). HasType items p bool_type) (sym r.2) (stripped_typed (f r.0) (keeps r.0 (own r.0 there)))

  -- ---- the prelude

  postulated_known : (which : Postulate) → is_known_named items (postulated which) ≡ true
  postulated_known TDef = refl
  postulated_known AndDef = refl
  postulated_known ImpDef = refl
  postulated_known ForallDef = refl
  postulated_known ExistsDef = refl
  postulated_known OrDef = refl
  postulated_known FDef = refl
  postulated_known NotDef = refl
  postulated_known ExistsUniqueDef = refl
  postulated_known EtaAx = refl
  postulated_known SelectAx = refl
  postulated_known OneOne = refl
  postulated_known Onto = refl
  postulated_known InfinityAx = refl

  statement_typed : (which : Postulate) → HasType items (statement_of which) bool_type
  statement_typed which =
      typed_known items (statement_of which) bool_type (known_outside items (postulated which) ∙ postulated_known which) (type_outside (postulated which) ∙ postulated_typed which)

  -- ---- what items make

  made_at : (c : List ℕ) (a : TypeTree) → is_constant_at c a (c, a) ≡ true
  made_at c a = λ i. (bytes_eq-Decides c c).1 refl i && instance_itself a i

  constant_made : (c : List ℕ) (a : TypeTree) (x : Item) → Holds items x → makes_constant c a x ≡ true → is_type items a ≡ true → HasType items (fixed c a) a
  constant_made c a x there makes stands =
      let has : has_constant items c a ≡ true = or_right (is_instance_of (prelude_generic c) a) (list_any (makes_constant c a) (in_order items)) (some_any (makes_constant c a) (in_order items) x (ordered_held items x there) makes) in
      typed_known items (fixed c a) a (λ i. stands i && has i) refl

  definition_typed : (c : List ℕ) (r : Nameless) (a : TypeTree) → Holds items (defined_constant c r) → HasType items r a → HasType items (equation a (fixed c a) r) bool_type
  definition_typed c r a there h =
      let makes : makes_constant c a (defined_constant c r) ≡ true =
      ap (λ o. list_any (is_constant_at c a) (constant_of c o)) (known_typed items r a h).1 ∙ ap (λ b. b || false) (made_at c a) in
      equation_of a (fixed c a) r (constant_made c a (defined_constant c r) there makes (own_type_stands r a h)) h

  module _ (c abs rep : List ℕ) (p : Nameless) (s : TypeTree) (there : Holds items (defined_type c abs rep p)) (typed : HasType items p (fun_type s bool_type)) where
    abbrev new : TypeTree
    new = new_type c (term_tyvars p)

    pub old_stands : is_type items s ≡ true
    old_stands = (fun_parts_stand items s bool_type (own_type_stands p (fun_type s bool_type) typed)).0

    new_made : (n : ℕ) → n ≡ length (term_tyvars p) → makes_type c n (defined_type c abs rep p) ≡ true
    new_made n e =
        let name : bytes_eq c c ≡ true = (bytes_eq-Decides c c).1 refl in
        let count : (n == length (term_tyvars p)) ≡ true = grind (arith, nat_tests) in
        λ i. (name i && count i) || false

    pub new_stands : is_type items new ≡ true
    new_stands =
        let makes : makes_type c (length (map TyVar (term_tyvars p))) (defined_type c abs rep p) ≡ true = new_made (length (map TyVar (term_tyvars p))) (params_counted (term_tyvars p)) in
        let has : has_arity items c (length (map TyVar (term_tyvars p))) ≡ true =
        or_right (list_any (is_constructor c (length (map TyVar (term_tyvars p)))) prelude_types) (list_any (makes_type c (length (map TyVar (term_tyvars p)))) (in_order items))
        (some_any (makes_type c (length (map TyVar (term_tyvars p)))) (in_order items) (defined_type c abs rep p) (ordered_held items (defined_type c abs rep p) there) makes) in
        is_type_app items c (map TyVar (term_tyvars p)) ∙ (λ i. has i && params_stand (term_tyvars p) i)

    pub constants : bijections abs rep new (option_and_then fun_parts (nameless_type [] p)) ≡ (abs, fun_type s new) ∷ (rep, fun_type new s) ∷ []
    constants = ap (λ o. bijections abs rep new (option_and_then fun_parts o)) (known_typed items p (fun_type s bool_type) typed).1

    to_typed : HasType items (to_new abs s new) (fun_type s new)
    to_typed =
        constant_made abs (fun_type s new) (defined_type c abs rep p) there
        (ap (list_any (is_constant_at abs (fun_type s new))) constants
        ∙ ap (λ b. b || (is_constant_at abs (fun_type s new) (rep, fun_type new s) || false)) (made_at abs (fun_type s new)))
        (fun_stands items s new old_stands new_stands)

    from_typed : HasType items (from_new rep s new) (fun_type new s)
    from_typed =
        constant_made rep (fun_type new s) (defined_type c abs rep p) there
        (ap (list_any (is_constant_at rep (fun_type new s))) constants
        ∙ or_right (is_constant_at rep (fun_type new s) (abs, fun_type s new)) (is_constant_at rep (fun_type new s) (rep, fun_type new s) || false) (ap (λ b. b || false) (made_at rep (fun_type new s))))
        (fun_stands items new s new_stands old_stands)

    abs_rep_typed : HasType items (abs_rep abs rep s new) bool_type
    abs_rep_typed =
        let a : Nameless = free (codes "a", new) in
        let own : HasType items a new = variable_typed items (codes "a", new) new_stands in
        equation_of new (app (to_new abs s new) (app (from_new rep s new) a)) a
        (applied_typed s new (to_new abs s new) (app (from_new rep s new) a) to_typed (applied_typed new s (from_new rep s new) a from_typed own)) own

    rep_abs_typed : HasType items (rep_abs abs rep p s new) bool_type
    rep_abs_typed =
        let r : Nameless = free (codes "r", s) in
        let own : HasType items r s = variable_typed items (codes "r", s) old_stands in
        let back : Nameless = app (from_new rep s new) (app (to_new abs s new) r) in
        equation_of bool_type (app p r) (equation s back r) (applied_typed s bool_type p r typed own)
        (equation_of s back r (applied_typed new s (from_new rep s new) (app (to_new abs s new) r) from_typed (applied_typed s new (to_new abs s new) r to_typed own)) own)

  -- ---- derivations

  record Typed (hs : Hyps) (c : Nameless) : Type 0 where
    hyps : AreFormulas hs
    concl : HasType items c bool_type

  derived_typed : (hs : Hyps) (c : Nameless) → Derives items hs c → Typed hs c
  derived_typed _ _ (by_refl t a h) = record { hyps = none_formulas; concl = equation_of a t t h h }
  derived_typed _ _ (by_trans hs ks a b s m n t d e same) =
      let p = derived_typed _ _ d in
      let q = derived_typed _ _ e in
      let x = sides_typed a bool_type s m p.concl in
      let y = sides_typed b bool_type n t q.concl in
      let is : a ≡ b = one_type a b m n same x.1 y.0 in
      record { hyps = union_formulas hs ks p.hyps q.hyps; concl = equation_of a s t x.0 (retyped b a t (sym is) y.1) }
  derived_typed _ _ (by_mk_comb hs ks a b f g x y d e) =
      let p = derived_typed _ _ d in
      let q = derived_typed _ _ e in
      let u = sides_typed (fun_type a b) bool_type f g p.concl in
      let w = sides_typed a bool_type x y q.concl in
      record { hyps = union_formulas hs ks p.hyps q.hyps; concl = equation_of b (app f x) (app g y) (applied_typed a b f x u.0 w.0) (applied_typed a b g y u.1 w.1) }
  derived_typed _ _ (by_abs hs a v l r stands fresh d) =
      let p = derived_typed _ _ d in
      let x = sides_typed a bool_type l r p.concl in
      record { hyps = p.hyps; concl = equation_of (fun_type v.1 a) (bind v l) (bind v r) (bound_typed v a l stands x.0) (bound_typed v a r stands x.1) }
  derived_typed _ _ (by_beta a v b h fresh) = record {
    hyps = none_formulas;
    concl = equation_of a (app (lam (base_of v.0) v.1 b) (free v)) (open_with (free v) 0 b) h (body_typed a v b h);
  }
  derived_typed _ _ (by_assume p h) = record { hyps = only_formulas p h; concl = h }
  derived_typed _ _ (by_eq_mp hs ks a l r m d e same) =
      let p = derived_typed _ _ d in
      let q = derived_typed _ _ e in
      let x = sides_typed a bool_type l r p.concl in
      record { hyps = union_formulas hs ks p.hyps q.hyps; concl = retyped a bool_type r (one_type a bool_type l m same x.0 q.concl) x.1 }
  derived_typed _ _ (by_deduct_antisym hs ks p q d e) =
      let x = derived_typed _ _ d in
      let y = derived_typed _ _ e in
      record {
        hyps = union_formulas (set.remove hs (strip q)) (set.remove ks (strip p)) (removed_formulas hs (strip q) x.hyps) (removed_formulas ks (strip p) y.hyps);
        concl = equation_of bool_type p q x.concl y.concl;
      }
  derived_typed _ _ (by_inst_type hs p pairs ok d) =
      let x = derived_typed _ _ d in
      let keeps : (q : Nameless) → HasType items q bool_type → HasType items (types_inst pairs q) bool_type =
      λ q h. typed_known items (types_inst pairs q) bool_type (known_inst items pairs ok q (known_typed items q bool_type h).0) (inst_type pairs [] q bool_type (known_typed items q bool_type h).1) in
      record { hyps = image_formulas (types_inst pairs) hs keeps x.hyps; concl = keeps p x.concl }
  derived_typed _ _ (by_inst hs p pairs ok d) =
      let x = derived_typed _ _ d in
      let keeps : (q : Nameless) → HasType items q bool_type → HasType items (term_subst pairs 0 q) bool_type =
      λ q h. typed_known items (term_subst pairs 0 q) bool_type (known_subst items pairs ok 0 q (known_typed items q bool_type h).0)
      (subst_type pairs [] 0 q (pairs_typed pairs (typed_pairs_fit items pairs ok)) ∙ (known_typed items q bool_type h).1) in
      record { hyps = image_formulas (term_subst pairs 0) hs keeps x.hyps; concl = keeps p x.concl }
  derived_typed _ _ (by_postulate which) = record { hyps = none_formulas; concl = statement_typed which }
  derived_typed _ _ (by_axiom n p h typed) = record { hyps = none_formulas; concl = typed }
  derived_typed _ _ (by_definition c r a h typed) = record { hyps = none_formulas; concl = definition_typed c r a h typed }
  derived_typed _ _ (by_abs_rep c abs rep p s h typed) = record { hyps = none_formulas; concl = abs_rep_typed c abs rep p s h typed }
  derived_typed _ _ (by_rep_abs c abs rep p s h typed) = record { hyps = none_formulas; concl = rep_abs_typed c abs rep p s h typed }

-- the law
pub theorem_typed : (t : Theorem) → Derives t.basis t.sequent.hyps t.sequent.concl → IsWellTyped t
theorem_typed t d = let p = derived_typed t.basis t.sequent.hyps t.sequent.concl d in record { hypotheses = p.hyps; conclusion = p.concl }
