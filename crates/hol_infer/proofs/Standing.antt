-- The most general typing of a term that stands stands too: what does not stand in its types could be taken out, and substitution
-- takes nothing out.
use Rattle.std.proofs.Common.{◌≡◌, ℕ, suc, List, [], ◌∷◌, map, refl, sym, ◌∙◌, ap, subst, Bool, true, false, ◌&&◌, cond, bytes_eq, codes, Option, Some, None}
use Rattle.std.proofs.lemmas.Bool.{and_parts, and_from}
use Rattle.std.specs.Prelude.{unwrap_or}
use Rattle.std.specs.Option.{option_map}
use Rattle.std.proofs.lemmas.Option.{slice_get-map}
use Rattle.hol_types.specs.Tree.{TypeTree, TypeList, TyVar, TyApp, no_types, more_types}
use Rattle.hol_types.specs.Fun.{fun_type}
use Rattle.hol_types.specs.Subst.{type_lookup, type_for, type_subst, types_subst}
use Rattle.hol_terms.specs.Nameless.{Nameless, free, bound, fixed, app, lam, base_of, nameless_type}
use Rattle.hol_terms.proofs.Primes.{base_again}
use Rattle.hol_typing.specs.Raw.{RawTree, RawBound, RawConstant, RawFree, RawApply, RawAbstraction, RawAnnotated}
use Rattle.hol_typing.specs.Typing.{IsTyping, IsPrincipal, Meets, instantiate_types}
use Rattle.hol_infer.specs.Reading.{IsReading}
use Rattle.hol_infer.specs.Standing.{types_count, stands, all_stand, TermStands}
use Rattle.hol_typing.proofs.Named.{typing_type}

-- ---- types with a variable in the place of each part whose constructor takes another number of arguments

abbrev mutual
  trimmed : (List ℕ → ℕ → Bool) → TypeTree → TypeTree
  trimmed takes (TyVar a) = TyVar a
  trimmed takes (TyApp c ts) = cond (takes c (types_count ts)) (TyApp c (all_trimmed takes ts)) (TyVar [])

  all_trimmed : (List ℕ → ℕ → Bool) → TypeList → TypeList
  all_trimmed takes no_types = no_types
  all_trimmed takes (more_types t ts) = more_types (trimmed takes t) (all_trimmed takes ts)

-- a part that takes so many arguments stays
trimmed_app : (takes : List ℕ → ℕ → Bool) (c : List ℕ) (ts : TypeList) → takes c (types_count ts) ≡ true → trimmed takes (TyApp c ts) ≡ TyApp c (all_trimmed takes ts)
trimmed_app takes c ts e = ap (λ (b : Bool). cond b (TyApp c (all_trimmed takes ts)) (TyVar [])) e

mutual
  trimmed_same : (takes : List ℕ → ℕ → Bool) (t : TypeTree) → stands takes t ≡ true → trimmed takes t ≡ t
  trimmed_same takes (TyVar a) h = refl
  trimmed_same takes (TyApp c ts) h =
      trimmed_app takes c ts ((and_parts (takes c (types_count ts)) (all_stand takes ts) h).0)
      ∙ ap (TyApp c) (all_trimmed_same takes ts ((and_parts (takes c (types_count ts)) (all_stand takes ts) h).1))

  all_trimmed_same : (takes : List ℕ → ℕ → Bool) (ts : TypeList) → all_stand takes ts ≡ true → all_trimmed takes ts ≡ ts
  all_trimmed_same takes no_types h = refl
  all_trimmed_same takes (more_types t ts) h = λ i. more_types (trimmed_same takes t ((and_parts (stands takes t) (all_stand takes ts) h).0) i) (all_trimmed_same takes ts ((and_parts (stands takes t) (all_stand takes ts) h).1) i)

trimmed_fun : (takes : List ℕ → ℕ → Bool) (s t : TypeTree) → takes (codes "fun") 2 ≡ true → trimmed takes (fun_type s t) ≡ fun_type (trimmed takes s) (trimmed takes t)
trimmed_fun takes s t e = trimmed_app takes (codes "fun") (more_types s (more_types t no_types)) e

abbrev trimmed_pair : (List ℕ → ℕ → Bool) → TypeTree × List ℕ → TypeTree × List ℕ
trimmed_pair takes p = (trimmed takes p.0, p.1)

trimmed_for : (takes : List ℕ → ℕ → Bool) (pairs : List (TypeTree × List ℕ)) (a : List ℕ) → type_for (map (trimmed_pair takes) pairs) a ≡ trimmed takes (type_for pairs a)
trimmed_for takes [] a = refl
trimmed_for takes (p ∷ pairs) a = by (bytes_eq p.1 a) (trimmed_for takes pairs a)
  where
    by : (b : Bool) → type_for (map (trimmed_pair takes) pairs) a ≡ trimmed takes (type_for pairs a) →
        unwrap_or (cond b (Some (trimmed takes p.0)) (type_lookup (map (trimmed_pair takes) pairs) a)) (TyVar a) ≡ trimmed takes (unwrap_or (cond b (Some p.0) (type_lookup pairs a)) (TyVar a))
    by true r = refl
    by false r = r

count_subst : (pairs : List (TypeTree × List ℕ)) (ts : TypeList) → types_count (types_subst pairs ts) ≡ types_count ts
count_subst pairs no_types = refl
count_subst pairs (more_types t ts) = ap (λ (n : ℕ). suc n) (count_subst pairs ts)

mutual
  trimmed_subst : (takes : List ℕ → ℕ → Bool) (pairs : List (TypeTree × List ℕ)) (t : TypeTree) → stands takes t ≡ true → trimmed takes (type_subst pairs t) ≡ type_subst (map (trimmed_pair takes) pairs) t
  trimmed_subst takes pairs (TyVar a) h = sym (trimmed_for takes pairs a)
  trimmed_subst takes pairs (TyApp c ts) h =
      trimmed_app takes c (types_subst pairs ts) (ap (takes c) (count_subst pairs ts) ∙ (and_parts (takes c (types_count ts)) (all_stand takes ts) h).0)
      ∙ ap (TyApp c) (all_trimmed_subst takes pairs ts ((and_parts (takes c (types_count ts)) (all_stand takes ts) h).1))

  all_trimmed_subst : (takes : List ℕ → ℕ → Bool) (pairs : List (TypeTree × List ℕ)) (ts : TypeList) → all_stand takes ts ≡ true → all_trimmed takes (types_subst pairs ts) ≡ types_subst (map (trimmed_pair takes) pairs) ts
  all_trimmed_subst takes pairs no_types h = refl
  all_trimmed_subst takes pairs (more_types t ts) h = λ i. more_types (trimmed_subst takes pairs t ((and_parts (stands takes t) (all_stand takes ts) h).0) i) (all_trimmed_subst takes pairs ts ((and_parts (stands takes t) (all_stand takes ts) h).1) i)

-- ---- a type that substitution trims stands

mutual
  subst_stands : (takes : List ℕ → ℕ → Bool) (pairs : List (TypeTree × List ℕ)) (t : TypeTree) → type_subst pairs t ≡ trimmed takes t → stands takes t ≡ true
  subst_stands takes pairs (TyVar a) e = refl
  subst_stands takes pairs (TyApp c ts) e = by (takes c (types_count ts)) e (subst_all_stand takes pairs ts)
    where
      by : (b : Bool) → TyApp c (types_subst pairs ts) ≡ cond b (TyApp c (all_trimmed takes ts)) (TyVar []) → (types_subst pairs ts ≡ all_trimmed takes ts → all_stand takes ts ≡ true) → (b && all_stand takes ts) ≡ true
      by true e r = r (cc)
      by false e r = absurd (cc)

  subst_all_stand : (takes : List ℕ → ℕ → Bool) (pairs : List (TypeTree × List ℕ)) (ts : TypeList) → types_subst pairs ts ≡ all_trimmed takes ts → all_stand takes ts ≡ true
  subst_all_stand takes pairs no_types e = refl
  subst_all_stand takes pairs (more_types t ts) e =
      and_from (stands takes t) (all_stand takes ts) (subst_stands takes pairs t (first_same e)) (subst_all_stand takes pairs ts (rest_same e))
    where
      first_same : more_types (type_subst pairs t) (types_subst pairs ts) ≡ more_types (trimmed takes t) (all_trimmed takes ts) → type_subst pairs t ≡ trimmed takes t
      first_same e = cc

      rest_same : more_types (type_subst pairs t) (types_subst pairs ts) ≡ more_types (trimmed takes t) (all_trimmed takes ts) → types_subst pairs ts ≡ all_trimmed takes ts
      rest_same e = cc

-- ---- terms

-- a base name is its own base
base_stands : (y x : List ℕ) → y ≡ base_of x → base_of y ≡ y
base_stands y x e = ap base_of e ∙ base_again x ∙ sym e

-- of a term whose identifiers are resolved: its annotations, and its constants with their generic types and the instances of these
abbrev pub OptionStands : (List ℕ → ℕ → Bool) → Option TypeTree → Type 0
OptionStands takes None = Unit {0}
OptionStands takes (Some a) = stands takes a ≡ true

abbrev pub RawStands : (List ℕ → ℕ → Bool) → (List ℕ → TypeTree → Bool) → RawTree → Type 0
RawStands takes has (RawBound i) = Unit {0}
RawStands takes has (RawConstant c generic) = (stands takes generic ≡ true) × ((pairs : List (TypeTree × List ℕ)) → has c (type_subst pairs generic) ≡ true)
RawStands takes has (RawFree x) = Unit {0}
RawStands takes has (RawApply f a) = RawStands takes has f × RawStands takes has a
RawStands takes has (RawAbstraction x annotation body) = OptionStands takes annotation × RawStands takes has body
RawStands takes has (RawAnnotated e a) = RawStands takes has e × (stands takes a ≡ true)

abbrev trimmed_term : (List ℕ → ℕ → Bool) → Nameless → Nameless
trimmed_term takes (free v) = free (v.0, trimmed takes v.1)
trimmed_term takes (bound i) = bound i
trimmed_term takes (fixed c s) = fixed c (trimmed takes s)
trimmed_term takes (app f x) = app (trimmed_term takes f) (trimmed_term takes x)
trimmed_term takes (lam a s b) = lam a (trimmed takes s) (trimmed_term takes b)

free_same : (u v : List ℕ × TypeTree) → free u ≡ free v → u ≡ v
free_same u v e = cc

meets_trimmed : (takes : List ℕ → ℕ → Bool) (annotation : Option TypeTree) (s : TypeTree) → OptionStands takes annotation → Meets annotation s → Meets annotation (trimmed takes s)
meets_trimmed takes None s h m = tt
meets_trimmed takes (Some a) s h m = ap (trimmed takes) m ∙ trimmed_same takes a h

module _ (takes : List ℕ → ℕ → Bool) (has : List ℕ → TypeTree → Bool) (functions : takes (codes "fun") 2 ≡ true) (type_of : List ℕ → TypeTree) where
  typing_trimmed : (env : List TypeTree) (raw : RawTree) (p : Nameless) (t : TypeTree) → RawStands takes has raw → IsTyping type_of env raw p t → IsTyping (λ x. trimmed takes (type_of x)) (map (trimmed takes) env) raw (trimmed_term takes p) (trimmed takes t)
  typing_trimmed env (RawBound i) (free v) t r h = absurd h
  typing_trimmed env (RawBound i) (bound j) t r (e, h) = (e, slice_get-map (trimmed takes) env i ∙ ap (option_map (trimmed takes)) h)
  typing_trimmed env (RawBound i) (fixed c u) t r h = absurd h
  typing_trimmed env (RawBound i) (app f x) t r h = absurd h
  typing_trimmed env (RawBound i) (lam a s b) t r h = absurd h
  typing_trimmed env (RawConstant c g) (free v) t r h = absurd h
  typing_trimmed env (RawConstant c g) (bound j) t r h = absurd h
  typing_trimmed env (RawConstant c g) (fixed d u) t r (e, f, h) = (e, ap (trimmed takes) f, (map (trimmed_pair takes) h.0, ap (trimmed takes) h.1 ∙ trimmed_subst takes h.0 g r.0))
  typing_trimmed env (RawConstant c g) (app f x) t r h = absurd h
  typing_trimmed env (RawConstant c g) (lam a s b) t r h = absurd h
  typing_trimmed env (RawFree x) (free v) t r (e, h) = (ap (λ (w : List ℕ × TypeTree). (w.0, trimmed takes w.1)) e, ap (trimmed takes) h)
  typing_trimmed env (RawFree x) (bound j) t r h = absurd h
  typing_trimmed env (RawFree x) (fixed d u) t r h = absurd h
  typing_trimmed env (RawFree x) (app f y) t r h = absurd h
  typing_trimmed env (RawFree x) (lam a s b) t r h = absurd h
  typing_trimmed env (RawApply f a) (free v) t r h = absurd h
  typing_trimmed env (RawApply f a) (bound j) t r h = absurd h
  typing_trimmed env (RawApply f a) (fixed d u) t r h = absurd h
  typing_trimmed env (RawApply f a) (app g b) t (r, k) (s, p, q) = (
    trimmed takes s,
    subst (λ (u : TypeTree). IsTyping (λ x. trimmed takes (type_of x)) (map (trimmed takes) env) f (trimmed_term takes g) u) (trimmed_fun takes s t functions) (typing_trimmed env f g (fun_type s t) r p),
    typing_trimmed env a b s k q,
  )
  typing_trimmed env (RawApply f a) (lam x s b) t r h = absurd h
  typing_trimmed env (RawAbstraction x annotation body) (free v) t r h = absurd h
  typing_trimmed env (RawAbstraction x annotation body) (bound j) t r h = absurd h
  typing_trimmed env (RawAbstraction x annotation body) (fixed d u) t r h = absurd h
  typing_trimmed env (RawAbstraction x annotation body) (app f a) t r h = absurd h
  typing_trimmed env (RawAbstraction x annotation body) (lam y s b) t (r, k) (e, m, (u, f, q)) =
      (e, meets_trimmed takes annotation s r m, (trimmed takes u, ap (trimmed takes) f ∙ trimmed_fun takes s u functions, typing_trimmed (s ∷ env) body b u k q))
  typing_trimmed env (RawAnnotated e a) p t (r, k) (f, h) = (ap (trimmed takes) f ∙ trimmed_same takes a k, typing_trimmed env e p t r h)

  -- each type of a term that substitution trims stands, and each constant has a type that it may have
  typing_stands : (pairs : List (TypeTree × List ℕ)) (env : List TypeTree) (raw : RawTree) (p : Nameless) (t : TypeTree) → RawStands takes has raw → IsTyping type_of env raw p t → instantiate_types pairs p ≡ trimmed_term takes p → TermStands takes has p
  typing_stands pairs env (RawBound i) (free v) t r h e = absurd h
  typing_stands pairs env (RawBound i) (bound j) t r h e = tt
  typing_stands pairs env (RawBound i) (fixed c u) t r h e = absurd h
  typing_stands pairs env (RawBound i) (app f x) t r h e = absurd h
  typing_stands pairs env (RawBound i) (lam a s b) t r h e = absurd h
  typing_stands pairs env (RawConstant c g) (free v) t r h e = absurd h
  typing_stands pairs env (RawConstant c g) (bound j) t r h e = absurd h
  typing_stands pairs env (RawConstant c g) (fixed d u) t (r, k) (m, f, h) e =
      (subst_stands takes pairs u (fixed_same e), subst (λ (w : List ℕ). has w u ≡ true) m (subst (λ (w : TypeTree). has c w ≡ true) (sym (f ∙ h.1)) (k h.0)))
    where
      fixed_same : fixed d (type_subst pairs u) ≡ fixed d (trimmed takes u) → type_subst pairs u ≡ trimmed takes u
      fixed_same e = cc
  typing_stands pairs env (RawConstant c g) (app f x) t r h e = absurd h
  typing_stands pairs env (RawConstant c g) (lam a s b) t r h e = absurd h
  typing_stands pairs env (RawFree x) (free v) t r h e = subst_stands takes pairs v.1 (ap (λ (w : List ℕ × TypeTree). w.1) (free_same (v.0, type_subst pairs v.1) (v.0, trimmed takes v.1) e))
  typing_stands pairs env (RawFree x) (bound j) t r h e = absurd h
  typing_stands pairs env (RawFree x) (fixed d u) t r h e = absurd h
  typing_stands pairs env (RawFree x) (app f y) t r h e = absurd h
  typing_stands pairs env (RawFree x) (lam a s b) t r h e = absurd h
  typing_stands pairs env (RawApply f a) (free v) t r h e = absurd h
  typing_stands pairs env (RawApply f a) (bound j) t r h e = absurd h
  typing_stands pairs env (RawApply f a) (fixed d u) t r h e = absurd h
  typing_stands pairs env (RawApply f a) (app g b) t (r, k) (s, p, q) e =
      (typing_stands pairs env f g (fun_type s t) r p (left_same e), typing_stands pairs env a b s k q (right_same e))
    where
      left_same : app (instantiate_types pairs g) (instantiate_types pairs b) ≡ app (trimmed_term takes g) (trimmed_term takes b) → instantiate_types pairs g ≡ trimmed_term takes g
      left_same e = cc

      right_same : app (instantiate_types pairs g) (instantiate_types pairs b) ≡ app (trimmed_term takes g) (trimmed_term takes b) → instantiate_types pairs b ≡ trimmed_term takes b
      right_same e = cc
  typing_stands pairs env (RawApply f a) (lam x s b) t r h e = absurd h
  typing_stands pairs env (RawAbstraction x annotation body) (free v) t r h e = absurd h
  typing_stands pairs env (RawAbstraction x annotation body) (bound j) t r h e = absurd h
  typing_stands pairs env (RawAbstraction x annotation body) (fixed d u) t r h e = absurd h
  typing_stands pairs env (RawAbstraction x annotation body) (app f a) t r h e = absurd h
  typing_stands pairs env (RawAbstraction x annotation body) (lam y s b) t (r, k) (m, n, (u, f, q)) e =
      (base_stands y x m, subst_stands takes pairs s (type_same e), typing_stands pairs (s ∷ env) body b u k q (body_same e))
    where
      type_same : lam y (type_subst pairs s) (instantiate_types pairs b) ≡ lam y (trimmed takes s) (trimmed_term takes b) → type_subst pairs s ≡ trimmed takes s
      type_same e = cc

      body_same : lam y (type_subst pairs s) (instantiate_types pairs b) ≡ lam y (trimmed takes s) (trimmed_term takes b) → instantiate_types pairs b ≡ trimmed_term takes b
      body_same e = cc
  typing_stands pairs env (RawAnnotated a c) p t (r, k) (f, h) e = typing_stands pairs env a p t r h e

pub principal_stands : (takes : List ℕ → ℕ → Bool) (has : List ℕ → TypeTree → Bool) (raw : RawTree) (p : Nameless) → takes (codes "fun") 2 ≡ true → RawStands takes has raw → IsPrincipal raw p → TermStands takes has p
principal_stands takes has raw p functions r principal =
    let x = principal.typing in
    let general = principal.most_general (trimmed_term takes p) ((λ y. trimmed takes (x.0 y)), (trimmed takes x.1.0, typing_trimmed takes has functions x.0 [] raw p x.1.0 r x.1.1)) in
    typing_stands takes has functions x.0 general.pairs [] raw p x.1.0 r x.1.1 general.gives

-- a reading is well typed
pub reading_typed : (raw : RawTree) (p : Nameless) → IsReading raw p → (t : TypeTree) × (nameless_type [] p ≡ Some t)
reading_typed raw p r = (let x = r.principal.typing in (x.1.0, typing_type x.0 [] raw p x.1.0 x.1.1))
