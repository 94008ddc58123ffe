-- The names of the variables of a type.
-- Source: HOL Light's fusion.ml, tyvars, the union of the arguments' variables. Here they stand in order of bytes.
use Rattle.std.specs.Prelude.{◌≡◌, ℕ, List, [], ◌∷◌, ◌++◌, Bool, false, ◌||◌, bytes_eq}
use Rattle.std.specs.declared.cmp.Ordering.{Ordering}
use Rattle.std.specs.declared.cmp.Ordering.TheVariants.{Less, Equal, Greater}
use Rattle.hol_types.specs.Tree.{TypeTree, TypeList, TyVar, TyApp, no_types, more_types}
use Rattle.hol_types.specs.Order.{name_cmp}

-- as they occur
abbrev mutual
  pub type_names : TypeTree → List (List ℕ)
  type_names (TyVar a) = a ∷ []
  type_names (TyApp c ts) = types_names ts

  pub types_names : TypeList → List (List ℕ)
  types_names no_types = []
  types_names (more_types t ts) = type_names t ++ types_names ts

-- the name a put before b and the names after it, where r says how a and b compare
abbrev pub placed_name : Ordering → List ℕ → List ℕ → List (List ℕ) → List (List ℕ) → List (List ℕ)
placed_name Less a b after inserted = a ∷ b ∷ after
placed_name Equal a b after inserted = b ∷ after
placed_name Greater a b after inserted = b ∷ inserted

-- a list in order of bytes, with the name a in its place, unless it is there
abbrev pub insert_name : List ℕ → List (List ℕ) → List (List ℕ)
insert_name a [] = a ∷ []
insert_name a (b ∷ after) = placed_name (name_cmp a b) a b after (insert_name a after)

abbrev pub insert_names : List (List ℕ) → List (List ℕ) → List (List ℕ)
insert_names names [] = names
insert_names names (a ∷ more) = insert_names (insert_name a names) more

-- each name once, in order of bytes
abbrev pub tyvars : TypeTree → List (List ℕ)
tyvars t = insert_names [] (type_names t)

-- the name a comes before each of the names
abbrev pub IsBelowAll : List ℕ → List (List ℕ) → Type 0
IsBelowAll a [] = Unit {0}
IsBelowAll a (b ∷ names) = (name_cmp a b ≡ Less) × IsBelowAll a names

-- each name comes before those after it, so that none stands twice
abbrev pub IsAscending : List (List ℕ) → Type 0
IsAscending [] = Unit {0}
IsAscending (a ∷ names) = IsBelowAll a names × IsAscending names

-- a is one of the names
abbrev pub is_among : List (List ℕ) → List ℕ → Bool
is_among [] a = false
is_among (b ∷ names) a = bytes_eq a b || is_among names a
