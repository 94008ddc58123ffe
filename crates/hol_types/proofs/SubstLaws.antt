-- Laws of substitution for type variables.
use Rattle.std.proofs.Common.{◌≡◌, ℕ, List, [], ◌∷◌, ◌++◌, map, refl, ap, ◌∙◌, Bool, true, false, cond, ◌||◌, bytes_eq, Option, Some, None, unwrap_or}
use Rattle.std.proofs.lemmas.Bool.{or_left, or_right}
use Rattle.std.proofs.lemmas.Slice.Eq.{bytes_eq-Decides}
use Rattle.hol_types.specs.Tree.{TypeTree, TypeList, TyVar, TyApp, no_types, more_types}
use Rattle.hol_types.specs.Subst.{type_lookup, type_for, type_subst, types_subst, types_composed, TypeUntouched}
use Rattle.hol_types.specs.Names.{type_names, types_names, is_among}
use Rattle.hol_types.proofs.Filters.{among_append}

-- what stands for a variable by one list of pairs after another
composed_for : (ps qs : List (TypeTree × List ℕ)) (a : List ℕ) → type_subst ps (type_for qs a) ≡ type_for (types_composed ps qs) a
composed_for ps [] a = refl
composed_for ps (q ∷ qs) a = by (bytes_eq q.1 a) (composed_for ps qs a)
  where
    by : (b : Bool) → type_subst ps (type_for qs a) ≡ type_for (types_composed ps qs) a → type_subst ps (unwrap_or (cond b (Some q.0) (type_lookup qs a)) (TyVar a)) ≡ unwrap_or (cond b (Some (type_subst ps q.0)) (type_lookup (types_composed ps qs) a)) (TyVar a)
    by true e = refl
    by false e = e

mutual
  -- one substitution after another is one substitution
  pub type_subst_composed : (ps qs : List (TypeTree × List ℕ)) (t : TypeTree) → type_subst ps (type_subst qs t) ≡ type_subst (types_composed ps qs) t
  type_subst_composed ps qs (TyVar a) = composed_for ps qs a
  type_subst_composed ps qs (TyApp c ts) = ap (TyApp c) (types_subst_composed ps qs ts)

  types_subst_composed : (ps qs : List (TypeTree × List ℕ)) (ts : TypeList) → types_subst ps (types_subst qs ts) ≡ types_subst (types_composed ps qs) ts
  types_subst_composed ps qs no_types = refl
  types_subst_composed ps qs (more_types t ts) = λ i. more_types (type_subst_composed ps qs t i) (types_subst_composed ps qs ts i)

among_itself : (a : List ℕ) → (bytes_eq a a || false) ≡ true
among_itself a = rw ((bytes_eq-Decides a a).1 refl) refl

mutual
  -- a type of whose variables none has a pair stays as it is
  pub type_untouched : (pairs : List (TypeTree × List ℕ)) (t : TypeTree) → TypeUntouched pairs t → type_subst pairs t ≡ t
  type_untouched pairs (TyVar a) h = ap (λ o. unwrap_or o (TyVar a)) (h a (among_itself a))
  type_untouched pairs (TyApp c ts) h = ap (TyApp c) (types_untouched pairs ts h)

  types_untouched : (pairs : List (TypeTree × List ℕ)) (ts : TypeList) → ((a : List ℕ) → is_among (types_names ts) a ≡ true → type_lookup pairs a ≡ None) → types_subst pairs ts ≡ ts
  types_untouched pairs no_types h = refl
  types_untouched pairs (more_types t ts) h = λ i. more_types
      (type_untouched pairs t (λ a e. h a (among_append (type_names t) (types_names ts) a ∙ or_left (is_among (type_names t) a) (is_among (types_names ts) a) e)) i)
      (types_untouched pairs ts (λ a e. h a (among_append (type_names t) (types_names ts) a ∙ or_right (is_among (type_names t) a) (is_among (types_names ts) a) e)) i)

mutual
  -- no pairs leave each type as it is
  pub subst_none : (t : TypeTree) → type_subst [] t ≡ t
  subst_none (TyVar a) = refl
  subst_none (TyApp c ts) = ap (TyApp c) (substs_none ts)

  pub substs_none : (ts : TypeList) → types_subst [] ts ≡ ts
  substs_none no_types = refl
  substs_none (more_types t ts) = λ i. more_types (subst_none t i) (substs_none ts i)
