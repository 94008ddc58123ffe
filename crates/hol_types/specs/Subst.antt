-- Substitution for type variables by a list of pairs (new type, name), of which the first of a name counts.
-- Source: HOL Light's fusion.ml, type_subst, whose pairs are looked up by lib.ml's rev_assocd.
use Rattle.std.specs.Prelude.{◌≡◌, ℕ, List, [], ◌∷◌, true, cond, bytes_eq, Option, Some, None, unwrap_or}
use Rattle.hol_types.specs.Tree.{TypeTree, TypeList, TyVar, TyApp, no_types, more_types}
use Rattle.hol_types.specs.Names.{type_names, is_among}

-- the type of the first pair of the name a
abbrev pub type_lookup : List (TypeTree × List ℕ) → List ℕ → Option TypeTree
type_lookup [] a = None
type_lookup (p ∷ pairs) a = cond (bytes_eq p.1 a) (Some p.0) (type_lookup pairs a)

-- what stands for the variable a
abbrev pub type_for : List (TypeTree × List ℕ) → List ℕ → TypeTree
type_for pairs a = unwrap_or (type_lookup pairs a) (TyVar a)

abbrev mutual
  pub type_subst : List (TypeTree × List ℕ) → TypeTree → TypeTree
  type_subst pairs (TyVar a) = type_for pairs a
  type_subst pairs (TyApp c ts) = TyApp c (types_subst pairs ts)

  pub types_subst : List (TypeTree × List ℕ) → TypeList → TypeList
  types_subst pairs no_types = no_types
  types_subst pairs (more_types t ts) = more_types (type_subst pairs t) (types_subst pairs ts)

-- the pairs by which the substitution by qs, and then that by ps, is one: those of qs with their types substituted, before those of ps
abbrev pub types_composed : List (TypeTree × List ℕ) → List (TypeTree × List ℕ) → List (TypeTree × List ℕ)
types_composed ps [] = ps
types_composed ps (q ∷ qs) = (type_subst ps q.0, q.1) ∷ types_composed ps qs

-- no variable of the type has a pair
abbrev pub TypeUntouched : List (TypeTree × List ℕ) → TypeTree → Type 0
TypeUntouched pairs t = (a : List ℕ) → is_among (type_names t) a ≡ true → type_lookup pairs a ≡ None
