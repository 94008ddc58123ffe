-- Instantiation of types in a named term, which renames bound variables, is instantiation in its nameless term.
use Rattle.std.proofs.Common.{◌≡◌, ℕ, ◌+◌, List, [], ◌∷◌, ◌++◌, map, refl, ap, sym, ◌∙◌, subst, Bool, true, false, cond, ◌||◌, Option, Some, None, IsSome, is_some}
use Rattle.std.proofs.lemmas.Bool.{or_left, or_right, or_parts}
use Rattle.std.specs.Option.{option_map, option_and_then}
use Rattle.hol_types.specs.Tree.{TypeTree}
use Rattle.hol_types.specs.Fun.{fun_type}
use Rattle.hol_types.specs.Subst.{type_subst}
use Rattle.hol_types.specs.Equal.{variable_eq}
use Rattle.hol_terms.specs.Named.{Named, var, constant, comb, abs, named_type, applied_type}
use Rattle.hol_terms.specs.Nameless.{Nameless, bound, app, lam, base_of, place, nameless, free_occurrences}
use Rattle.hol_terms.specs.Scoped.{binds, occurs_in, add_new, add_all}
use Rattle.hol_terms.proofs.Same.{variable_eq_decides}
use Rattle.hol_terms.proofs.Occurs.{binds_append, occurs_is}
use Rattle.hol_terms.proofs.Primes.{base_with_primes, fewest_other}
use Rattle.hol_terms.proofs.Typing.{comb_type, abs_type}
use Rattle.hol_subst.specs.Variant.{is_free_in, IsVariant}
use Rattle.hol_subst.specs.Substitution.{variable_inst, types_inst}
use Rattle.hol_subst.specs.Substituted.{Captures, IsBinder, put}
use Rattle.hol_subst.specs.Renaming.{image, images_without, KeepsTypes, KeepsPlaces, IsInstance}
use Rattle.hol_subst.proofs.Closing.{eq_same, eq_flip}
use Rattle.hol_subst.proofs.Binders.{substituted_agree}
use Rattle.hol_subst.proofs.TypesInst.{applied_inst}

abbrev Var : Type 0
Var = List ℕ × TypeTree

abbrev Variables : Type 0
Variables = List (List ℕ × TypeTree)

abbrev Avoided : Type 0
Avoided = List Nameless

-- ---- what the bound variable has to avoid
still_there : (vs ws : Variables) (w : Var) → binds vs w ≡ true → binds (add_all vs ws) w ≡ true
still_there vs [] w h = h
still_there vs (x ∷ ws) w h = still_there (add_new vs x) ws w (by (binds vs x))
  where
    by : (b : Bool) → binds (cond b vs (vs ++ x ∷ [])) w ≡ true
    by true = h
    by false = binds_append vs (x ∷ []) w ∙ or_left (binds vs w) (binds (x ∷ []) w) h

now_there : (vs : Variables) (x w : Var) → variable_eq x w ≡ true → binds (add_new vs x) w ≡ true
now_there vs x w e = by (binds vs x) refl
  where
    by : (b : Bool) → binds vs x ≡ b → binds (cond b vs (vs ++ x ∷ [])) w ≡ true
    by true h = ap (binds vs) (sym ((variable_eq_decides x w).0 e)) ∙ h
    by false h = binds_append vs (x ∷ []) w ∙ or_right (binds vs w) (variable_eq x w || false) (or_left (variable_eq x w) false e)

-- each of the added variables is there
pub all_there : (vs ws : Variables) (w : Var) → binds ws w ≡ true → binds (add_all vs ws) w ≡ true
all_there vs [] w h = absurd (cc)
all_there vs (x ∷ ws) w h = by (variable_eq x w) refl h (all_there (add_new vs x) ws w)
  where
    by : (b : Bool) → variable_eq x w ≡ b → (b || binds ws w) ≡ true → (binds ws w ≡ true → binds (add_all (add_new vs x) ws) w ≡ true) → binds (add_all (add_new vs x) ws) w ≡ true
    by true e g r = still_there (add_new vs x) ws w (now_there vs x w e)
    by false e g r = r g

module _ (pairs : List (TypeTree × List ℕ)) (old new : Variables) (v u : Var) where
  -- what stands for one of the variables is not u
  apart_from : (ws : Variables) → is_free_in (map (λ t. nameless [] t) (images_without pairs old new v ws)) u ≡ false → (w : Var) → binds ws w ≡ true → variable_eq v w ≡ false → variable_eq u (image pairs old new w) ≡ false
  apart_from [] e w h d = absurd (cc)
  apart_from (x ∷ ws) e w h d = by (variable_eq x v) refl (variable_eq x w) refl e h (λ f g. apart_from ws f w g d)
    where
      by : (a : Bool) → variable_eq x v ≡ a → (b : Bool) → variable_eq x w ≡ b
          → is_free_in (map (λ t. nameless [] t) (cond a (images_without pairs old new v ws) (var (image pairs old new x) ∷ images_without pairs old new v ws))) u ≡ false
          → (b || binds ws w) ≡ true
          → (is_free_in (map (λ t. nameless [] t) (images_without pairs old new v ws)) u ≡ false → binds ws w ≡ true → variable_eq u (image pairs old new w) ≡ false)
          → variable_eq u (image pairs old new w) ≡ false
      by true p true q f g r = let z : true ≡ false = sym ((variable_eq_decides v w).1 (sym ((variable_eq_decides x v).0 p) ∙ (variable_eq_decides x w).0 q)) ∙ d in absurd (cc)
      by true p false q f g r = r f g
      by false p true q f g r =
          let own : variable_eq (image pairs old new x) u ≡ false = (or_parts _ _ (or_parts _ _ f).0).0 in
          ap (λ y. variable_eq u (image pairs old new y)) (sym ((variable_eq_decides x w).0 q)) ∙ eq_flip u (image pairs old new x) ∙ own
      by false p false q f g r = r (or_parts _ _ f).1 g

  -- the same for the free variables of a body
  pub apart_in : (b : Named) → is_free_in (map (λ t. nameless [] t) (images_without pairs old new v (add_all [] (free_occurrences (nameless [] b))))) u ≡ false → (w : Var) → occurs_in w b ≡ true → variable_eq v w ≡ false → variable_eq u (image pairs old new w) ≡ false
  apart_in b e w o d = apart_from (add_all [] (free_occurrences (nameless [] b))) e w (all_there [] (free_occurrences (nameless [] b)) w (sym (occurs_is w b) ∙ o)) d

-- each variable of a list without repetitions is one of the list's or was there
was_there : (vs : Variables) (x w : Var) → binds (add_new vs x) w ≡ true → (binds vs w || variable_eq x w) ≡ true
was_there vs x w h = by (binds vs x) h
  where
    one : (a b : Bool) → (a || (b || false)) ≡ true → (a || b) ≡ true
    one true b e = refl
    one false true e = refl
    one false false e = e

    by : (t : Bool) → binds (cond t vs (vs ++ x ∷ [])) w ≡ true → (binds vs w || variable_eq x w) ≡ true
    by true e = or_left (binds vs w) (variable_eq x w) e
    by false e = one (binds vs w) (variable_eq x w) (sym (binds_append vs (x ∷ []) w) ∙ e)

all_from : (vs ws : Variables) (w : Var) → binds (add_all vs ws) w ≡ true → (binds vs w || binds ws w) ≡ true
all_from vs [] w h = or_left (binds vs w) false h
all_from vs (x ∷ ws) w h = by (binds vs w) (variable_eq x w) (was_there vs x w) (all_from (add_new vs x) ws w h)
  where
    by : (a b : Bool) → (binds (add_new vs x) w ≡ true → (a || b) ≡ true) → (binds (add_new vs x) w || binds ws w) ≡ true → (a || (b || binds ws w)) ≡ true
    by true b f e = refl
    by false true f e = refl
    by false false f e = rest (binds (add_new vs x) w) refl e
      where
        rest : (t : Bool) → binds (add_new vs x) w ≡ t → (t || binds ws w) ≡ true → binds ws w ≡ true
        rest true p q = let z : false ≡ true = f p in absurd (cc)
        rest false p q = q

module _ (pairs : List (TypeTree × List ℕ)) (old new : Variables) (v : Var) where
  -- what is free in what stands for one of the other variables
  record IsImageOf (ws : Variables) (u : Var) : Type 0 where
    of : Var
    in_list : binds ws of ≡ true
    differs : variable_eq v of ≡ false
    is : variable_eq (image pairs old new of) u ≡ true

  image_found : (ws : Variables) (u : Var) → is_free_in (map (λ t. nameless [] t) (images_without pairs old new v ws)) u ≡ true → IsImageOf ws u
  image_found [] u e = absurd (cc)
  image_found (x ∷ ws) u e = by (variable_eq x v) refl e (image_found ws u)
    where
      later : IsImageOf ws u → IsImageOf (x ∷ ws) u
      later i = record { of = i.of; in_list = or_right (variable_eq x i.of) (binds ws i.of) i.in_list; differs = i.differs; is = i.is }

      here : (is_free_in (map (λ t. nameless [] t) (images_without pairs old new v ws)) u ≡ true → IsImageOf ws u) → (a b : Bool) → variable_eq x v ≡ false → variable_eq (image pairs old new x) u ≡ a → is_free_in (map (λ t. nameless [] t) (images_without pairs old new v ws)) u ≡ b → ((a || false) || b) ≡ true → IsImageOf (x ∷ ws) u
      here r true b d p q f = record { of = x; in_list = or_left (variable_eq x x) (binds ws x) (eq_same x); differs = eq_flip v x ∙ d; is = p }
      here r false true d p q f = later (r q)
      here r false false d p q f = absurd (cc)

      by : (t : Bool) → variable_eq x v ≡ t → is_free_in (map (λ t. nameless [] t) (cond t (images_without pairs old new v ws) (var (image pairs old new x) ∷ images_without pairs old new v ws))) u ≡ true → (is_free_in (map (λ t. nameless [] t) (images_without pairs old new v ws)) u ≡ true → IsImageOf ws u) → IsImageOf (x ∷ ws) u
      by true d f r = later (r f)
      by false d f r = here r (variable_eq (image pairs old new x) u) (is_free_in (map (λ t. nameless [] t) (images_without pairs old new v ws)) u) d refl refl f

  pub avoided_captured : (b : Named) (u : Var) → is_free_in (map (λ t. nameless [] t) (images_without pairs old new v (add_all [] (free_occurrences (nameless [] b))))) u ≡ true → Captures (λ x. var (image pairs old new x)) v b u
  avoided_captured b u e = by (image_found (add_all [] (free_occurrences (nameless [] b))) u e)
    where
      by : IsImageOf (add_all [] (free_occurrences (nameless [] b))) u → Captures (λ x. var (image pairs old new x)) v b u
      by i = record { other = i.of; in_body = occurs_is i.of b ∙ all_from [] (free_occurrences (nameless [] b)) i.of i.in_list; differs = i.differs; comes = i.is }

  pub captured_avoided : (b : Named) (u : Var) → Captures (λ x. var (image pairs old new x)) v b u → is_free_in (map (λ t. nameless [] t) (images_without pairs old new v (add_all [] (free_occurrences (nameless [] b))))) u ≡ true
  captured_avoided b u c = by (is_free_in (map (λ t. nameless [] t) (images_without pairs old new v (add_all [] (free_occurrences (nameless [] b))))) u) refl
    where
      by : (t : Bool) → is_free_in (map (λ t. nameless [] t) (images_without pairs old new v (add_all [] (free_occurrences (nameless [] b))))) u ≡ t → t ≡ true
      by true e = refl
      by false e =
          let z : true ≡ false = sym c.comes ∙ eq_flip (image pairs old new c.other) u ∙ apart_in pairs old new v u b e c.other c.in_body c.differs in
          absurd (cc)

  -- so the binder is a variant over these
  variant_binder : (u : Var) (b : Named) → IsVariant (map (λ t. nameless [] t) (images_without pairs old new v (add_all [] (free_occurrences (nameless [] b))))) (variable_inst pairs v) u → IsBinder (λ x. var (image pairs old new x)) v (type_subst pairs v.1) b u
  variant_binder u b h = record {
    type_is = h.same_type;
    name = fewest_other
        (λ a. is_free_in (map (λ t. nameless [] t) (images_without pairs old new v (add_all [] (free_occurrences (nameless [] b))))) (a, type_subst pairs v.1) ≡ true)
        (λ a. Captures (λ x. var (image pairs old new x)) v b (a, type_subst pairs v.1))
        v.0 u.0
        (λ a e. avoided_captured b (a, type_subst pairs v.1) e)
        (λ a c. captured_avoided b (a, type_subst pairs v.1) c)
        h.name;
  }

-- ---- types
pub image_type : (pairs : List (TypeTree × List ℕ)) (old new : Variables) (v : Var) → KeepsTypes pairs old new → (image pairs old new v).1 ≡ type_subst pairs v.1
image_type pairs [] new v h = refl
image_type pairs (l ∷ old) [] v h = refl
image_type pairs (l ∷ old) (r ∷ new) v h = by (variable_eq l v) refl (image_type pairs old new v h.1)
  where
    by : (b : Bool) → variable_eq l v ≡ b → (image pairs old new v).1 ≡ type_subst pairs v.1 → (cond b r (image pairs old new v)).1 ≡ type_subst pairs v.1
    by true e i = h.0 ∙ ap (λ w. type_subst pairs w.1) ((variable_eq_decides l v).0 e)
    by false e i = i

-- ---- the cases
module _ (pairs : List (TypeTree × List ℕ)) (old new : Variables) where
  pub instance_var : (v : Var) → KeepsTypes pairs old new → IsInstance pairs old new (var v) (var (image pairs old new v))
  instance_var v h = record {
    types = λ s e. ap Some (image_type pairs old new v h) ∙ ap (option_map (type_subst pairs)) e;
    terms = λ k. k v (eq_same v) 0;
    names = refl;
  }

  pub instance_constant : (c : List ℕ) (s : TypeTree) → IsInstance pairs old new (constant c s) (constant c (type_subst pairs s))
  instance_constant c s = record { types = λ t e. ap (option_map (type_subst pairs)) e; terms = λ k. refl; names = refl }

  comb_types : (f x g y : Named) → IsInstance pairs old new f g → IsInstance pairs old new x y → (o q : Option TypeTree) → named_type f ≡ o → named_type x ≡ q → (s : TypeTree) → option_and_then (λ r. option_and_then (λ t. applied_type r t) q) o ≡ Some s → named_type (comb g y) ≡ Some (type_subst pairs s)
  comb_types f x g y m n None q a b s e = absurd (cc)
  comb_types f x g y m n (Some r) None a b s e = absurd (cc)
  comb_types f x g y m n (Some r) (Some t) a b s e = comb_type g y (type_subst pairs r) (type_subst pairs t) (m.types r a) (n.types t b) ∙ applied_inst pairs r t s e

  pub instance_comb : (f x g y : Named) → IsInstance pairs old new f g → IsInstance pairs old new x y → IsInstance pairs old new (comb f x) (comb g y)
  instance_comb f x g y m n = record {
    types = comb_types f x g y m n (named_type f) (named_type x) refl refl;
    terms = λ k i. app (m.terms (λ w o. k w (or_left (occurs_in w f) (occurs_in w x) o)) i) (n.terms (λ w o. k w (or_right (occurs_in w f) (occurs_in w x) o)) i);
    names = (g, y, refl, m.names, n.names);
  }

  abs_types : (v u : Var) (b c : Named) → u.1 ≡ type_subst pairs v.1 → IsInstance pairs (v ∷ old) (u ∷ new) b c → (o : Option TypeTree) → named_type b ≡ o → (s : TypeTree) → option_map (λ t. fun_type v.1 t) o ≡ Some s → named_type (abs u c) ≡ Some (type_subst pairs s)
  abs_types v u b c p m None a s e = absurd (cc)
  abs_types v u b c p m (Some t) a s e =
      abs_type u c (type_subst pairs t) (m.types t a) ∙ ap (λ r. Some (fun_type r (type_subst pairs t))) p
      ∙ ap (option_map (type_subst pairs)) e

  -- nothing is captured in the body either
  pub keeps_inside : (v u : Var) (b : Named) → ((w : Var) → occurs_in w b ≡ true → variable_eq v w ≡ false → variable_eq u (image pairs old new w) ≡ false) → KeepsPlaces pairs old new (abs v b) → KeepsPlaces pairs (v ∷ old) (u ∷ new) b
  keeps_inside v u b apart k w o i = by (variable_eq v w) refl
    where
      by : (d : Bool) → variable_eq v w ≡ d → place (u ∷ new) i (cond d u (image pairs old new w)) ≡ types_inst pairs (cond d (bound i) (place old (i + 1) w))
      by true e = rw (eq_same u) refl
      by false e = rw (apart w o e) (k w (rw e o) (i + 1))

  -- what stands for the variables under one binder more
  pub image_put : (v u w : Var) → var (image pairs (v ∷ old) (u ∷ new) w) ≡ put v u (λ x. var (image pairs old new x)) w
  image_put v u w = by (variable_eq v w)
    where
      by : (d : Bool) → var (cond d u (image pairs old new w)) ≡ cond d (var u) (var (image pairs old new w))
      by true = refl
      by false = refl

  pub instance_abs : (v u : Var) (b c : Named) → base_of u.0 ≡ base_of v.0 → IsBinder (λ x. var (image pairs old new x)) v (type_subst pairs v.1) b u → IsInstance pairs (v ∷ old) (u ∷ new) b c → IsInstance pairs old new (abs v b) (abs u c)
  instance_abs v u b c q i m = record {
    types = abs_types v u b c i.type_is m (named_type b) refl;
    terms = λ k j. lam (q j) (i.type_is j) (m.terms (keeps_inside v u b apart k) j);
    names = (u, c, refl, i, substituted_agree (λ w. var (image pairs (v ∷ old) (u ∷ new) w)) (put v u (λ w. var (image pairs old new w))) (λ s. type_subst pairs s) b c (λ w o. image_put v u w) m.names);
  }
    where
      own : (u.0, type_subst pairs v.1) ≡ u
      own j = (u.0, sym i.type_is j)

      apart : (w : Var) → occurs_in w b ≡ true → variable_eq v w ≡ false → variable_eq u (image pairs old new w) ≡ false
      apart w o d = by (variable_eq u (image pairs old new w)) refl
        where
          by : (t : Bool) → variable_eq u (image pairs old new w) ≡ t → variable_eq u (image pairs old new w) ≡ false
          by true e =
              let comes : variable_eq (image pairs old new w) u ≡ true = eq_flip (image pairs old new w) u ∙ e in
              let captured : Captures (λ x. var (image pairs old new x)) v b u = record { other = w; in_body = o; differs = d; comes = comes } in
              absurd (i.name.fresh (subst (λ (x : Var). Captures (λ y. var (image pairs old new y)) v b x) (sym own) captured))
          by false e = e

-- outside all binders nothing can be captured
pub instance_outside : (pairs : List (TypeTree × List ℕ)) (t r : Named) → IsInstance pairs [] [] t r → nameless [] r ≡ types_inst pairs (nameless [] t)
instance_outside pairs t r m = m.terms (λ w o i. refl)

-- ---- base names
pub variant_base : (avoid : Avoided) (v u : Var) → IsVariant avoid v u → base_of u.0 ≡ base_of v.0
variant_base avoid v u h = ap base_of h.name.is ∙ base_with_primes h.name.primes v.0

-- ---- the same for what the code has at its ends
module _ (pairs : List (TypeTree × List ℕ)) (old new : Variables) where
  pub variable_at : (v u : Var) (t r : Named) → t ≡ var v → KeepsTypes pairs old new → u ≡ image pairs old new v → r ≡ var u → IsInstance pairs old new t r
  variable_at v u t r e h p q = subst (λ (x : Named). IsInstance pairs old new x r) (sym e) (subst (λ (r : Named). IsInstance pairs old new (var v) r) (sym (q ∙ ap var p)) (instance_var pairs old new v h))

  pub constant_at : (c : List ℕ) (s : TypeTree) (t r : Named) → t ≡ constant c s → r ≡ constant c (type_subst pairs s) → IsInstance pairs old new t r
  constant_at c s t r e q = subst (λ (x : Named). IsInstance pairs old new x r) (sym e) (subst (λ (r : Named). IsInstance pairs old new (constant c s) r) (sym q) (instance_constant pairs old new c s))

  pub application_at : (f x t g y r : Named) → t ≡ comb f x → IsInstance pairs old new f g → IsInstance pairs old new x y → r ≡ comb g y → IsInstance pairs old new t r
  application_at f x t g y r e m n q = subst (λ (z : Named). IsInstance pairs old new z r) (sym e) (subst (λ (r : Named). IsInstance pairs old new (comb f x) r) (sym q) (instance_comb pairs old new f x g y m n))

  -- the parts of an application that fits still fit
  pub fits_at : (f x t g y : Named) → t ≡ comb f x → IsInstance pairs old new f g → IsInstance pairs old new x y → (s : TypeTree) → named_type t ≡ Some s → IsSome (named_type (comb g y))
  fits_at f x t g y e m n s h = ap is_some ((instance_comb pairs old new f x g y m n).types s (sym (ap named_type e) ∙ h))

  abstraction_part : (v u : Var) (b c : Named)
      → IsVariant (map (λ t. nameless [] t) (images_without pairs old new v (add_all [] (free_occurrences (nameless [] b))))) (variable_inst pairs v) u
      → IsInstance pairs (v ∷ old) (u ∷ new) b c → IsInstance pairs old new (abs v b) (abs u c)
  abstraction_part v u b c h m =
      let avoid : List Nameless = map (λ t. nameless [] t) (images_without pairs old new v (add_all [] (free_occurrences (nameless [] b)))) in
      instance_abs pairs old new v u b c (variant_base avoid (variable_inst pairs v) u h) (variant_binder pairs old new v u b h) m

  pub abstraction_at : (v u : Var) (b t c r : Named) → t ≡ abs v b
      → IsVariant (map (λ t. nameless [] t) (images_without pairs old new v (add_all [] (free_occurrences (nameless [] b))))) (variable_inst pairs v) u
      → IsInstance pairs (v ∷ old) (u ∷ new) b c → r ≡ abs u c → IsInstance pairs old new t r
  abstraction_at v u b t c r e h m q = subst (λ (z : Named). IsInstance pairs old new z r) (sym e) (subst (λ (r : Named). IsInstance pairs old new (abs v b) r) (sym q) (abstraction_part v u b c h m))

-- where nothing changed
pub same_variable : (u v : Var) → true ≡ variable_eq u v → u ≡ v
same_variable u v e = (variable_eq_decides u v).0 (sym e)

pub kept_abstraction : (v u : Var) (b c : Named) → c ≡ b → true ≡ variable_eq u v → abs v b ≡ abs u c
kept_abstraction v u b c h e = ap (λ z. abs v z) (sym h) ∙ ap (λ w. abs w c) (sym (same_variable u v e))
