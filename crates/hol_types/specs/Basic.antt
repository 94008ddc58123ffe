-- Types of whose constructors each stands over every basis, with as many arguments as its arity says; and the type of truth values.
-- Source: HOL Light's fusion.ml (bool, fun) and nums.ml (ind).
use Rattle.std.specs.Prelude.{ℕ, zero, suc, Bool, true, false, ◌&&◌, ◌==◌, List, [], ◌∷◌, bytes_eq, codes}
use Rattle.std.specs.List.{list_any}
use Rattle.hol_types.specs.Tree.{TypeTree, TypeList, TyVar, TyApp, no_types, more_types}

-- the constructors with their arities
abbrev pub basic_constructors : List (List ℕ × ℕ)
basic_constructors = (codes "bool", 0) ∷ (codes "fun", 2) ∷ (codes "ind", 0) ∷ []

abbrev pub is_basic_constructor : List ℕ → ℕ → Bool
is_basic_constructor c n = list_any (λ p. bytes_eq c p.0 && (n == p.1)) basic_constructors

abbrev pub arguments : TypeList → ℕ
arguments no_types = zero
arguments (more_types t ts) = suc (arguments ts)

abbrev mutual
  pub is_basic : TypeTree → Bool
  is_basic (TyVar a) = true
  is_basic (TyApp c ts) = is_basic_constructor c (arguments ts) && are_basic ts

  pub are_basic : TypeList → Bool
  are_basic no_types = true
  are_basic (more_types t ts) = is_basic t && are_basic ts

abbrev pub is_empty : TypeList → Bool
is_empty no_types = true
is_empty (more_types t ts) = false

-- bool
abbrev pub is_bool : TypeTree → Bool
is_bool (TyVar a) = false
is_bool (TyApp c ts) = bytes_eq c (codes "bool") && is_empty ts
