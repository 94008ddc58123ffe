-- What each type keeps to tell at once that a variable does not occur in it: 64 bits, of which each name has one, that of its place. Public
-- clauses name it for the filters that types and terms keep: `Ty::filter`, `NameFilter`, and those of hol_terms.
use Rattle.std.specs.Prelude.{ℕ, ◌+◌, ◌*◌, ◌^◌, ◌%◌, List, [], ◌∷◌}
use Rattle.std.specs.Int.RustNames.{bit_or}
use Rattle.hol_types.specs.Tree.{TypeTree, TypeList, TyVar, TyApp, no_types, more_types}

-- the place of a name of whose bytes those before these gave p
abbrev pub name_place : ℕ → List ℕ → ℕ
name_place p [] = p
name_place p (x ∷ xs) = name_place ((31 * p + x) % 64) xs

abbrev pub name_bit : List ℕ → ℕ
name_bit a = 2 ^ name_place 0 a

-- the bits of the variables of a type
abbrev mutual
  pub type_filter : TypeTree → ℕ
  type_filter (TyVar a) = name_bit a
  type_filter (TyApp c ts) = types_filter ts

  pub types_filter : TypeList → ℕ
  types_filter no_types = 0
  types_filter (more_types t ts) = bit_or (type_filter t) (types_filter ts)

-- the bits of the names of pairs
abbrev pub pairs_filter : List (TypeTree × List ℕ) → ℕ
pairs_filter [] = 0
pairs_filter (p ∷ pairs) = bit_or (name_bit p.1) (pairs_filter pairs)
