-- The order of types: variables before applications, then names by bytes, then arguments from the left, fewer first.
-- Source: lexicographic order of finite trees. HOL Light takes OCaml's compare in its place, which is not asked for here.
use Rattle.std.specs.Prelude.{ℕ, List}
use Rattle.std.specs.Ordering.{nat_cmp, ordering_then}
use Rattle.std.specs.Cmp.Lexicographic.{slice_cmp}
use Rattle.std.specs.declared.cmp.Ordering.{Ordering}
use Rattle.std.specs.declared.cmp.Ordering.TheVariants.{Less, Equal, Greater}
use Rattle.hol_types.specs.Tree.{TypeTree, TypeList, TyVar, TyApp, no_types, more_types}

abbrev pub name_cmp : List ℕ → List ℕ → Ordering
name_cmp a b = slice_cmp nat_cmp a b

abbrev mutual
  pub type_cmp : TypeTree → TypeTree → Ordering
  type_cmp (TyVar a) (TyVar b) = name_cmp a b
  type_cmp (TyVar a) (TyApp d us) = Less
  type_cmp (TyApp c ts) (TyVar b) = Greater
  type_cmp (TyApp c ts) (TyApp d us) = ordering_then (name_cmp c d) (types_cmp ts us)

  pub types_cmp : TypeList → TypeList → Ordering
  types_cmp no_types no_types = Equal
  types_cmp no_types (more_types u us) = Less
  types_cmp (more_types t ts) no_types = Greater
  types_cmp (more_types t ts) (more_types u us) = ordering_then (type_cmp t u) (types_cmp ts us)
