-- Matching a pattern with a type: pairs are found from left to right, and each name once.
-- Source: HOL Light's basics.ml, type_match. What a match is, say IsMatchOf and HasNoMatch. `match_type` is a test that computes, by which
-- definitions above say `instance of`; that some substitution gives the type exactly where it finds pairs is a law of the kernel.
use Rattle.std.specs.Prelude.{◌≡◌, ℕ, List, [], ◌∷◌, ◌++◌, map, cond, bytes_eq, Option, Some, None}
use Rattle.std.specs.Option.{option_and_then}
use Rattle.hol_types.specs.Tree.{TypeTree, TypeList, TyVar, TyApp, no_types, more_types}
use Rattle.hol_types.specs.Subst.{type_lookup, type_for, type_subst}
use Rattle.hol_types.specs.Names.{tyvars}
use Rattle.hol_types.specs.Equal.{type_eq}

-- the pairs with t for a, where earlier is what they have for a
abbrev pub bound_name : Option TypeTree → List (TypeTree × List ℕ) → List ℕ → TypeTree → Option (List (TypeTree × List ℕ))
bound_name None found a t = Some (found ++ (t, a) ∷ [])
bound_name (Some s) found a t = cond (type_eq s t) (Some found) None

abbrev mutual
  pub match_type : TypeTree → List (TypeTree × List ℕ) → TypeTree → Option (List (TypeTree × List ℕ))
  match_type (TyVar a) found t = bound_name (type_lookup found a) found a t
  match_type (TyApp c ts) found (TyVar b) = None
  match_type (TyApp c ts) found (TyApp d us) = cond (bytes_eq c d) (match_types ts found us) None

  pub match_types : TypeList → List (TypeTree × List ℕ) → TypeList → Option (List (TypeTree × List ℕ))
  match_types no_types found no_types = Some found
  match_types no_types found (more_types u us) = None
  match_types (more_types t ts) found no_types = None
  match_types (more_types t ts) found (more_types u us) = option_and_then (λ more. match_types ts more us) (match_type t found u)

-- the pairs in the order of the names
abbrev pub pairs_for : List (TypeTree × List ℕ) → List (List ℕ) → List (TypeTree × List ℕ)
pairs_for found names = map (λ a. (type_for found a, a)) names

-- What a match says: the pairs give the target, and have each name of the pattern once, in order of bytes.
pub record IsMatchOf (pattern target : TypeTree) (pairs : List (TypeTree × List ℕ)) : Type 0 where
  pub gives : type_subst pairs pattern ≡ target
  pub names : map (λ p. p.1) pairs ≡ tyvars pattern

-- no pairs give the target
abbrev pub HasNoMatch : TypeTree → TypeTree → Type 0
HasNoMatch pattern target = (pairs : List (TypeTree × List ℕ)) → type_subst pairs pattern ≡ target → ⊥
