-- A term whose types have none of the pairs' variables, and whose free variables stand for themselves, is its own instance.
use Rattle.std.proofs.Common.{◌≡◌, ℕ, zero, suc, ◌<◌, arith, List, [], ◌∷◌, refl, ap, sym, ◌∙◌, subst, Bool, true, false, cond, ◌||◌, Option, Some, None, ◌⊎◌, inl, inr}
use Rattle.std.proofs.lemmas.Bool.{or_left, or_right}
use Rattle.std.specs.Option.{option_map, option_and_then}
use Rattle.std.specs.Int.{bit_at}
use Rattle.std.proofs.lemmas.Nat.Bits.{bit_at_and, bit_at-lt, bit_at-zero, same_from_bits}
use lib.Bits.{bit_and, bit_or}
use Rattle.hol_types.specs.Tree.{TypeTree}
use Rattle.hol_types.specs.Fun.{fun_type}
use Rattle.hol_types.specs.Subst.{type_subst}
use Rattle.hol_types.specs.Equal.{variable_eq}
use Rattle.hol_types.specs.Filter.{name_place, name_bit, type_filter, pairs_filter}
use Rattle.hol_types.proofs.Filters.{Apart, apart_bits, kept_type, or_has_left, or_has_right, own_bit}
use Rattle.hol_terms.specs.Named.{Named, var, constant, comb, abs, named_type, applied_type}
use Rattle.hol_terms.specs.Nameless.{fixed, app, lam, base_of, place, nameless}
use Rattle.hol_terms.specs.Scoped.{occurs_in}
use Rattle.hol_terms.specs.Filter.{filter_of, type_filter_of}
use Rattle.hol_terms.proofs.Same.{variable_eq_decides}
use Rattle.hol_terms.proofs.Filters.{has_bit}
use Rattle.hol_subst.specs.Substitution.{types_inst}
use Rattle.hol_subst.specs.Renaming.{image, KeepsPlaces, IsInstance, HasRenamed}
use Rattle.hol_subst.proofs.Closing.{eq_same}
use Rattle.hol_subst.proofs.InstSteps.{keeps_inside}
use Rattle.hol_subst.proofs.Binders.{TypesStay, stays}
use Rattle.hol_subst.proofs.TypesInst.{applied_is}

abbrev Var : Type 0
Var = List ℕ × TypeTree

abbrev Variables : Type 0
Variables = List (List ℕ × TypeTree)

-- filters without a bit in common
none_common : (m n : ℕ) → Apart m n → bit_and m n ≡ 0
none_common m n h = same_from_bits (bit_and m n) 0 (λ i. by i (bit_at m i) (bit_at n i) refl refl (bit_at-lt m i) (bit_at-lt n i))
  where
    by : (i a b : ℕ) → bit_at m i ≡ a → bit_at n i ≡ b → a < 2 → b < 2 → bit_at (bit_and m n) i ≡ bit_at 0 i
    by i zero b p q l k = omega (arith, bit_at_and m n i, bit_at-zero i)
    by i (suc zero) zero p q l k = omega (arith, bit_at_and m n i, bit_at-zero i)
    by i (suc zero) (suc zero) p q l k = absurd (h i p q)
    by i (suc zero) (suc (suc b)) p q l k = absurd (omega arith)
    by i (suc (suc a)) b p q l k = absurd (omega arith)

module _ (pairs : List (TypeTree × List ℕ)) where
  abbrev Types : ℕ → Type 0
  Types m = Apart m (pairs_filter pairs)

  -- ---- types
  left : (m n : ℕ) → Types (bit_or m n) → Types m
  left m n h k p q = h k (or_has_left m n k p) q

  right : (m n : ℕ) → Types (bit_or m n) → Types n
  right m n h k p q = h k (or_has_right m n k p) q

  kept_free : (s : TypeTree) → Types (type_filter s) → type_subst pairs s ≡ s
  kept_free s h = kept_type pairs s (none_common (type_filter s) (pairs_filter pairs) h)

  -- the type of the term has none of the variables either
  kept_type_of : (t : Named) (s : TypeTree) → Types (type_filter_of t) → named_type t ≡ Some s → type_subst pairs s ≡ s
  kept_type_of (var v) s h e = let f : v.1 ≡ s = cc in ap (type_subst pairs) (sym f) ∙ kept_free v.1 h ∙ f
  kept_type_of (constant c r) s h e = let f : r ≡ s = cc in ap (type_subst pairs) (sym f) ∙ kept_free r h ∙ f
  kept_type_of (comb f x) s h e = by (named_type f) refl (named_type x) e (λ r. kept_type_of f r (left (type_filter_of f) (type_filter_of x) h))
    where
      by : (o : Option TypeTree) → named_type f ≡ o → (q : Option TypeTree) → option_and_then (λ r. option_and_then (λ t. applied_type r t) q) o ≡ Some s → ((r : TypeTree) → named_type f ≡ Some r → type_subst pairs r ≡ r) → type_subst pairs s ≡ s
      by None i q g k = absurd (cc)
      by (Some r) i None g k = absurd (cc)
      by (Some r) i (Some t) g k =
          let is : r ≡ fun_type t s = applied_is r t s g in
          let kept : type_subst pairs r ≡ r = k r i in
          let whole : fun_type (type_subst pairs t) (type_subst pairs s) ≡ fun_type t s = sym (ap (type_subst pairs) is) ∙ kept ∙ is in
          let part : type_subst pairs s ≡ s = cc in part
  kept_type_of (abs v b) s h e = by (named_type b) refl e (λ t. kept_type_of b t (right (type_filter v.1) (type_filter_of b) h))
    where
      by : (o : Option TypeTree) → named_type b ≡ o → option_map (λ t. fun_type v.1 t) o ≡ Some s → ((t : TypeTree) → named_type b ≡ Some t → type_subst pairs t ≡ t) → type_subst pairs s ≡ s
      by None i g k = absurd (cc)
      by (Some t) i g k =
          let own : type_subst pairs v.1 ≡ v.1 = kept_free v.1 (left (type_filter v.1) (type_filter_of b) h) in
          let body : type_subst pairs t ≡ t = k t i in
          let is : fun_type v.1 t ≡ s = cc in
          ap (type_subst pairs) (sym is) ∙ (λ j. fun_type (own j) (body j)) ∙ is

  types_stay : (t : Named) → Types (type_filter_of t) → TypesStay (λ r. type_subst pairs r) t
  types_stay (var v) h = tt
  types_stay (constant c s) h = sym (kept_free s h)
  types_stay (comb f x) h = (types_stay f (left (type_filter_of f) (type_filter_of x) h), types_stay x (right (type_filter_of f) (type_filter_of x) h))
  types_stay (abs v b) h = (sym (kept_free v.1 (left (type_filter v.1) (type_filter_of b) h)), types_stay b (right (type_filter v.1) (type_filter_of b) h))

  -- a free variable's type is one of the term's
  free_type : (w : Var) (t : Named) → occurs_in w t ≡ true → Types (type_filter_of t) → Types (type_filter w.1)
  free_type w (var v) o h = subst (λ (u : Var). Types (type_filter u.1)) ((variable_eq_decides v w).0 o) h
  free_type w (constant c s) o h = absurd (cc)
  free_type w (comb f x) o h = by (occurs_in w f) (occurs_in w x) (free_type w f) (free_type w x) o
    where
      by : (a b : Bool) → (a ≡ true → Types (type_filter_of f) → Types (type_filter w.1)) → (b ≡ true → Types (type_filter_of x) → Types (type_filter w.1)) → (a || b) ≡ true → Types (type_filter w.1)
      by true b p q r = p refl (left (type_filter_of f) (type_filter_of x) h)
      by false true p q r = q refl (right (type_filter_of f) (type_filter_of x) h)
      by false false p q r = absurd (cc)
  free_type w (abs v b) o h = by (variable_eq v w) (free_type w b) o
    where
      by : (a : Bool) → (occurs_in w b ≡ true → Types (type_filter_of b) → Types (type_filter w.1)) → cond a false (occurs_in w b) ≡ true → Types (type_filter w.1)
      by true p q = absurd (cc)
      by false p q = p q (right (type_filter v.1) (type_filter_of b) h)

  -- ---- terms
  abbrev Stay : Variables → Variables → Named → Type 0
  Stay old new t = (w : Var) → occurs_in w t ≡ true → image pairs old new w ≡ w

  stay_inside : (old new : Variables) (v : Var) (b : Named) → ((w : Var) → occurs_in w b ≡ true → variable_eq v w ≡ false → image pairs old new w ≡ w) → Stay (v ∷ old) (v ∷ new) b
  stay_inside old new v b s w o = by (variable_eq v w) refl
    where
      by : (d : Bool) → variable_eq v w ≡ d → cond d v (image pairs old new w) ≡ w
      by true e = (variable_eq_decides v w).0 e
      by false e = s w o e

  kept_under : (old new : Variables) (t : Named) → Types (type_filter_of t) → Stay old new t → KeepsPlaces pairs old new t → nameless new t ≡ types_inst pairs (nameless old t)
  kept_under old new (var v) h s k = ap (place new 0) (sym (s v (eq_same v))) ∙ k v (eq_same v) 0
  kept_under old new (constant c r) h s k = ap (fixed c) (sym (kept_free r h))
  kept_under old new (comb f x) h s k =
      let first : nameless new f ≡ types_inst pairs (nameless old f) =
      kept_under old new f (left (type_filter_of f) (type_filter_of x) h) (λ w o. s w (or_left (occurs_in w f) (occurs_in w x) o)) (λ w o. k w (or_left (occurs_in w f) (occurs_in w x) o)) in
      let second : nameless new x ≡ types_inst pairs (nameless old x) =
      kept_under old new x (right (type_filter_of f) (type_filter_of x) h) (λ w o. s w (or_right (occurs_in w f) (occurs_in w x) o)) (λ w o. k w (or_right (occurs_in w f) (occurs_in w x) o)) in
      λ i. app (first i) (second i)
  kept_under old new (abs v b) h s k =
      let outside : (w : Var) → occurs_in w b ≡ true → variable_eq v w ≡ false → image pairs old new w ≡ w = λ w o e. s w (rw e o) in
      let own : v.1 ≡ type_subst pairs v.1 = sym (kept_free v.1 (left (type_filter v.1) (type_filter_of b) h)) in
      let body : nameless (v ∷ new) b ≡ types_inst pairs (nameless (v ∷ old) b) =
      kept_under (v ∷ old) (v ∷ new) b (right (type_filter v.1) (type_filter_of b) h) (stay_inside old new v b outside) (keeps_inside pairs old new v v b (λ w o e. ap (variable_eq v) (outside w o e) ∙ e) k) in
      λ i. lam (base_of v.0) (own i) (body i)

  -- where no type may change and no free variable may be renamed
  pub kept_instance : (old new : Variables) (t : Named) (renamed : ℕ) → HasRenamed pairs old new renamed → bit_and (type_filter_of t) (pairs_filter pairs) ≡ 0 → bit_and (filter_of t) renamed ≡ 0 → IsInstance pairs old new t t
  kept_instance old new t renamed h e f =
      let types : Types (type_filter_of t) = apart_bits (type_filter_of t) (pairs_filter pairs) e in
      let stay : Stay old new t = λ w o. h.stays w (apart_bits (filter_of t) renamed f (name_place 0 w.0) (has_bit w t o)) (kept_free w.1 (free_type w t o types)) in
      record {
        types = λ s g. g ∙ ap Some (sym (kept_type_of t s types g));
        terms = λ k. kept_under old new t types stay k;
        names = stays (λ w. var (image pairs old new w)) (λ r. type_subst pairs r) t (types_stay t types) (λ w o. ap var (stay w o));
      }

  -- ---- what is renamed
  pub none_renamed : (renamed : ℕ) → HasRenamed pairs [] [] renamed
  none_renamed renamed = record { stays = λ w n e i. (w.0, e i) }

  inside_same : (old new : Variables) (renamed : ℕ) (v u : Var) → u ≡ v → HasRenamed pairs old new renamed → (w : Var) → (bit_at renamed (name_place 0 w.0) ≡ 1 → ⊥) → type_subst pairs w.1 ≡ w.1 → image pairs (v ∷ old) (u ∷ new) w ≡ w
  inside_same old new renamed v u p h w n e = by (variable_eq v w) refl
    where
      by : (d : Bool) → variable_eq v w ≡ d → cond d u (image pairs old new w) ≡ w
      by true f = p ∙ (variable_eq_decides v w).0 f
      by false f = h.stays w n e

  inside_other : (old new : Variables) (renamed : ℕ) (v u : Var) → HasRenamed pairs old new renamed → (w : Var) → (bit_at (bit_or renamed (name_bit v.0)) (name_place 0 w.0) ≡ 1 → ⊥) → type_subst pairs w.1 ≡ w.1 → image pairs (v ∷ old) (u ∷ new) w ≡ w
  inside_other old new renamed v u h w n e = by (variable_eq v w) refl
    where
      by : (d : Bool) → variable_eq v w ≡ d → cond d u (image pairs old new w) ≡ w
      by true f = absurd (n (or_has_right renamed (name_bit v.0) (name_place 0 w.0) (subst (λ (x : Var). bit_at (name_bit v.0) (name_place 0 x.0) ≡ 1) ((variable_eq_decides v w).0 f) (own_bit v.0))))
      by false f = h.stays w (λ b. n (or_has_left renamed (name_bit v.0) (name_place 0 w.0) b)) e

  pub renamed_inside : (old new : Variables) (renamed more : ℕ) (v u : Var) → ((u ≡ v) × (more ≡ renamed)) ⊎ (more ≡ bit_or renamed (name_bit v.0)) → HasRenamed pairs old new renamed → HasRenamed pairs (v ∷ old) (u ∷ new) more
  renamed_inside old new renamed more v u (inl p) h = subst (λ (m : ℕ). HasRenamed pairs (v ∷ old) (u ∷ new) m) (sym p.1) (record { stays = inside_same old new renamed v u p.0 h })
  renamed_inside old new renamed more v u (inr p) h = subst (λ (m : ℕ). HasRenamed pairs (v ∷ old) (u ∷ new) m) (sym p) (record { stays = inside_other old new renamed v u h })
