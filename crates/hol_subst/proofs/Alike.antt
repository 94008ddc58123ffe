-- Where the type instance of a binder is renamed only variables that differ from it by primes alone matter: what stands for others has no name
-- that it may get.
use Rattle.std.proofs.Common.{◌≡◌, ℕ, List, [], ◌∷◌, ◌++◌, map, refl, ap, sym, ◌∙◌, subst, Bool, true, false, cond, not, ◌&&◌, ◌||◌, bytes_eq}
use Rattle.std.proofs.lemmas.Bool.{or_left, or_right, and_parts, not-true}
use Rattle.std.proofs.lemmas.Slice.Eq.{bytes_eq-Decides}
use Rattle.hol_types.specs.Tree.{TypeTree}
use Rattle.hol_types.specs.Equal.{variable_eq}
use Rattle.hol_types.specs.Filter.{name_bit}
use Rattle.hol_terms.specs.Named.{Named, var, abs}
use Rattle.hol_terms.specs.Nameless.{Nameless, base_of, nameless, free_occurrences}
use Rattle.hol_terms.specs.Primes.{with_primes}
use Rattle.hol_terms.specs.Scoped.{binds, occurs_in, add_all}
use Rattle.hol_terms.proofs.Occurs.{binds_append}
use Rattle.hol_terms.proofs.Primes.{base_with_primes}
use Rattle.hol_terms.proofs.Same.{variable_eq_decides}
use Rattle.hol_subst.specs.Substituted.{Captures}
use Rattle.hol_subst.specs.Variant.{is_free_in, IsVariant}
use Rattle.hol_subst.specs.Renaming.{image, images_of, images_without, is_alike, is_alike_in, KeepsBases}
use Rattle.hol_subst.proofs.Closing.{eq_same, eq_flip}
use Rattle.hol_subst.proofs.InstSteps.{avoided_captured, captured_avoided, variant_base}

abbrev Var : Type 0
Var = List ℕ × TypeTree

abbrev Variables : Type 0
Variables = List (List ℕ × TypeTree)

-- ---- the walk
-- variables whose names have different places differ
pub told_apart : (v w : Var) → (name_bit v.0 ≡ name_bit w.0 → ⊥) → variable_eq v w ≡ false
told_apart v w h = by (variable_eq v w) refl
  where
    by : (b : Bool) → variable_eq v w ≡ b → variable_eq v w ≡ false
    by true e = absurd (h (ap (λ (u : Var). name_bit u.0) ((variable_eq_decides v w).0 e)))
    by false e = e

nowhere : (a b : Bool) → (a && (b && false)) ≡ false
nowhere true true = refl
nowhere true false = refl
nowhere false b = refl

or_none : (a : Bool) → a ≡ (a || false)
or_none true = refl
or_none false = refl

-- a variable that is put at the end
one_put : (v w : Var) (inner old : Variables) → (is_alike v w && (not (binds old w) && not (binds inner w))) ≡ true → (u : Var) → binds (old ++ w ∷ []) u ≡ (binds old u || is_alike_in v inner (var w) u)
one_put v w inner old h u = binds_append old (w ∷ []) u ∙ by (variable_eq w u) refl
  where
    parts : (is_alike v w ≡ true) × ((not (binds old w) && not (binds inner w)) ≡ true)
    parts = and_parts (is_alike v w) (not (binds old w) && not (binds inner w)) h

    free_there : binds inner w ≡ false
    free_there = not-true (binds inner w) (and_parts (not (binds old w)) (not (binds inner w)) parts.1).1

    by : (b : Bool) → variable_eq w u ≡ b → (binds old u || (b || false)) ≡ (binds old u || (is_alike v u && (not (binds inner u) && b)))
    by true p =
        let same : w ≡ u = (variable_eq_decides w u).0 p in
        let alike : is_alike v u ≡ true = ap (is_alike v) (sym same) ∙ parts.0 in
        let free : binds inner u ≡ false = ap (binds inner) (sym same) ∙ free_there in
        rw (alike, free) refl
    by false p = ap (λ b. binds old u || b) (sym (nowhere (is_alike v u) (not (binds inner u))))

-- one that is not
one_left : (v w : Var) (inner old : Variables) → (is_alike v w && (not (binds old w) && not (binds inner w))) ≡ false → (u : Var) → binds old u ≡ (binds old u || is_alike_in v inner (var w) u)
one_left v w inner old h u = by (variable_eq w u) refl
  where
    cases : (a o i : Bool) → (a && (not o && not i)) ≡ false → o ≡ (o || (a && (not i && true)))
    cases a true i e = refl
    cases true false true e = refl
    cases true false false e = absurd (cc)
    cases false false i e = refl

    by : (b : Bool) → variable_eq w u ≡ b → binds old u ≡ (binds old u || (is_alike v u && (not (binds inner u) && b)))
    by true p =
        let same : w ≡ u = (variable_eq_decides w u).0 p in
        cases (is_alike v u) (binds old u) (binds inner u) (ap (λ x. is_alike v x && (not (binds old x) && not (binds inner x))) (sym same) ∙ h)
    by false p = or_none (binds old u) ∙ ap (λ b. binds old u || b) (sym (nowhere (is_alike v u) (not (binds inner u))))

-- a binder that isn't alike binds none of them
pub beside : (v l : Var) (inner : Variables) (b : Named) → is_alike v l ≡ false → (w : Var) → is_alike_in v inner b w ≡ is_alike_in v inner (abs l b) w
beside v l inner b n w = by (variable_eq l w) refl
  where
    by : (e : Bool) → variable_eq l w ≡ e → (is_alike v w && (not (binds inner w) && occurs_in w b)) ≡ (is_alike v w && (not (binds inner w) && cond e false (occurs_in w b)))
    by true p =
        let other : is_alike v w ≡ false = ap (is_alike v) (sym ((variable_eq_decides l w).0 p)) ∙ n in
        rw other refl
    by false p = refl

-- the same for what the code has at its ends
pub put_at : (v w x : Var) (inner old seen new : Variables) (r : Bool) → seen ≡ old → r ≡ (is_alike v w && (not (binds seen w) && not (binds inner w))) → r ≡ true → x ≡ w → new ≡ old ++ x ∷ [] → (u : Var) → binds new u ≡ (binds old u || is_alike_in v inner (var w) u)
put_at v w x inner old seen new r s t e i n u =
    ap (λ xs. binds xs u) (n ∙ ap (λ y. old ++ y ∷ []) i)
    ∙ one_put v w inner old (ap (λ xs. is_alike v w && (not (binds xs w) && not (binds inner w))) (sym s) ∙ sym t ∙ e) u

pub left_at : (v w : Var) (inner old seen : Variables) (r : Bool) → seen ≡ old → r ≡ (is_alike v w && (not (binds seen w) && not (binds inner w))) → r ≡ false → (u : Var) → binds old u ≡ (binds old u || is_alike_in v inner (var w) u)
left_at v w inner old seen r s t e = one_left v w inner old (ap (λ xs. is_alike v w && (not (binds xs w) && not (binds inner w))) (sym s) ∙ sym t ∙ e)

-- ---- what stands for the variables that were found
module _ (pairs : List (TypeTree × List ℕ)) where
  image_base : (old new : Variables) (w : Var) → KeepsBases old new → base_of (image pairs old new w).0 ≡ base_of w.0
  image_base [] new w k = refl
  image_base (l ∷ old) [] w k = refl
  image_base (l ∷ old) (r ∷ new) w k = by (variable_eq l w) refl (image_base old new w k.1)
    where
      by : (b : Bool) → variable_eq l w ≡ b → base_of (image pairs old new w).0 ≡ base_of w.0 → base_of (cond b r (image pairs old new w)).0 ≡ base_of w.0
      by true e i = k.0 ∙ ap (λ u. base_of u.0) ((variable_eq_decides l w).0 e)
      by false e i = i

module _ (pairs : List (TypeTree × List ℕ)) (old new : Variables) where
  abbrev is_image : Variables → Var → Bool
  is_image ws u = is_free_in (map (λ t. nameless [] t) (images_of pairs old new ws)) u

  record HasImage (ws : Variables) (u : Var) : Type 0 where
    of : Var
    in_list : binds ws of ≡ true
    is : variable_eq (image pairs old new of) u ≡ true

  image_of : (ws : Variables) (u : Var) → is_image ws u ≡ true → HasImage ws u
  image_of [] u e = absurd (cc)
  image_of (x ∷ ws) u e = by (variable_eq (image pairs old new x) u) refl e (image_of ws u)
    where
      later : HasImage ws u → HasImage (x ∷ ws) u
      later i = record { of = i.of; in_list = or_right (variable_eq x i.of) (binds ws i.of) i.in_list; is = i.is }

      by : (b : Bool) → variable_eq (image pairs old new x) u ≡ b → ((b || false) || is_image ws u) ≡ true → (is_image ws u ≡ true → HasImage ws u) → HasImage (x ∷ ws) u
      by true p f r = record { of = x; in_list = or_left (variable_eq x x) (binds ws x) (eq_same x); is = p }
      by false p f r = later (r f)

  has_image : (ws : Variables) (u w : Var) → binds ws w ≡ true → variable_eq (image pairs old new w) u ≡ true → is_image ws u ≡ true
  has_image [] u w h e = absurd (cc)
  has_image (x ∷ ws) u w h e = by (variable_eq x w) refl h (λ g. has_image ws u w g e)
    where
      by : (b : Bool) → variable_eq x w ≡ b → (b || binds ws w) ≡ true → (binds ws w ≡ true → is_image ws u ≡ true) → ((variable_eq (image pairs old new x) u || false) || is_image ws u) ≡ true
      by true p f r = or_left _ _ (or_left _ _ (ap (λ y. variable_eq (image pairs old new y) u) ((variable_eq_decides x w).0 p) ∙ e))
      by false p f r = or_right _ _ (r f)

  both : (a b : Bool) → (a ≡ true → b ≡ true) → (b ≡ true → a ≡ true) → a ≡ b
  both true b f g = sym (f refl)
  both false true f g = g refl
  both false false f g = refl

  -- all variables alike are met under a name that the binder may get where all free variables are
  pub alike_images : (v : Var) (b : Named) (ws : Variables) → KeepsBases old new → ((w : Var) → binds ws w ≡ is_alike_in v [] b w) → (u : Var) → base_of u.0 ≡ base_of v.0
      → is_free_in (map (λ t. nameless [] t) (images_of pairs old new ws)) u ≡ is_free_in (map (λ t. nameless [] t) (images_without pairs old new v (add_all [] (free_occurrences (nameless [] b))))) u
  alike_images v b ws k h u q = both _ _ (λ e. captured_avoided pairs old new v b u (from (image_of ws u e))) (λ e. into (avoided_captured pairs old new v b u e))
    where
      from : HasImage ws u → Captures (λ x. var (image pairs old new x)) v b u
      from i =
          let alike : (is_alike v i.of ≡ true) × (occurs_in i.of b ≡ true) = and_parts (is_alike v i.of) (occurs_in i.of b) (sym (h i.of) ∙ i.in_list) in
          let apart : not (variable_eq i.of v) ≡ true = (and_parts (bytes_eq (base_of i.of.0) (base_of v.0)) (not (variable_eq i.of v)) alike.0).1 in
          record { other = i.of; in_body = alike.1; differs = eq_flip v i.of ∙ not-true (variable_eq i.of v) apart; comes = i.is }

      into : Captures (λ x. var (image pairs old new x)) v b u → is_image ws u ≡ true
      into c =
          let met : image pairs old new c.other ≡ u = (variable_eq_decides (image pairs old new c.other) u).0 c.comes in
          let base : base_of c.other.0 ≡ base_of v.0 = sym (image_base pairs old new c.other k) ∙ ap (λ (x : Var). base_of x.0) met ∙ q in
          let same : bytes_eq (base_of c.other.0) (base_of v.0) ≡ true = (bytes_eq-Decides (base_of c.other.0) (base_of v.0)).1 base in
          let other : variable_eq c.other v ≡ false = eq_flip c.other v ∙ c.differs in
          let found : is_alike_in v [] b c.other ≡ true = rw (same, other, c.in_body) refl in
          has_image ws u c.other (h c.other ∙ found) c.comes

-- a variant over the one list is a variant over the other
variant_over : (one other : List Nameless) (v u : Var) → ((w : Var) → base_of w.0 ≡ base_of v.0 → is_free_in one w ≡ is_free_in other w) → IsVariant one v u → IsVariant other v u
variant_over one other v u e h = record {
  same_type = h.same_type;
  name = record {
    primes = h.name.primes;
    is = h.name.is;
    fresh = λ o. h.name.fresh (e (u.0, v.1) (variant_base one v u h) ∙ o);
    least = λ j l. sym (e (with_primes j v.0, v.1) (base_with_primes j v.0)) ∙ h.name.least j l;
  };
}

pub variant_at : (one other : List Nameless) (own v u : Var) → own ≡ v → ((w : Var) → base_of w.0 ≡ base_of v.0 → is_free_in one w ≡ is_free_in other w) → IsVariant one own u → IsVariant other v u
variant_at one other own v u i e h = variant_over one other v u e (subst (λ (x : Var). IsVariant one x u) i h)
