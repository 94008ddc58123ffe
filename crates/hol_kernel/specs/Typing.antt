-- Well typed terms over the prelude and a set of items (fusion.ml: mk_type, mk_const, mk_comb, type_of).
use Rattle.std.specs.Prelude.{◌≡◌, ℕ, Bool, true, false, cond, ◌&&◌, List, [], bytes_eq, Option, Some, None, is_some, IsTrue}
use Rattle.std.specs.List.{list_all}
use Rattle.hol_types.specs.Tree.{TypeTree, TypeList, TyVar, TyApp, no_types, more_types}
pub use Rattle.hol_types.specs.Tree.{types_count}
use Rattle.hol_types.specs.Equal.{type_eq}
use Rattle.hol_terms.specs.Nameless.{Nameless, free, bound, fixed, app, lam, base_of, nameless_type}
use Rattle.hol_kernel.specs.Items.{Items}
use Rattle.hol_kernel.specs.Signature.{has_arity, has_constant}

-- each type constructor stands, and has as many arguments as its arity says
abbrev mutual
  pub is_type : Items → TypeTree → Bool
  is_type items (TyVar a) = true
  is_type items (TyApp c ts) = has_arity items c (types_count ts) && are_types items ts

  pub are_types : Items → TypeList → Bool
  are_types items no_types = true
  are_types items (more_types t ts) = is_type items t && are_types items ts

-- the name has no primes at its end
abbrev pub is_base : List ℕ → Bool
is_base a = bytes_eq (base_of a) a

-- each type of the term is one, each constant stands and has an instance of its generic type, and each base name is one
abbrev pub is_known : Items → Nameless → Bool
is_known items (free v) = is_type items v.1
is_known items (bound i) = true
is_known items (fixed c s) = is_type items s && has_constant items c s
is_known items (app f x) = is_known items f && is_known items x
is_known items (lam a s b) = is_base a && (is_type items s && is_known items b)

-- the type of a term that is well typed: all its types and constants stand, and each application fits
abbrev pub type_over : Items → Nameless → Option TypeTree
type_over items t = cond (is_known items t) (nameless_type [] t) None

abbrev pub is_typed : Items → Nameless → Bool
is_typed items t = is_some (type_over items t)

abbrev pub HasType : Items → Nameless → TypeTree → Type 0
HasType items t a = type_over items t ≡ Some a

-- the term is well typed, of the type a: as a test
abbrev pub is_type_at : Option TypeTree → TypeTree → Bool
is_type_at None a = false
is_type_at (Some s) a = type_eq s a

abbrev pub has_type : Items → Nameless → TypeTree → Bool
has_type items t a = is_type_at (type_over items t) a

abbrev pub IsType : Items → TypeTree → Type 0
IsType items a = IsTrue (is_type items a)

-- the types for type variables, and the terms for variables of their types
abbrev pub are_types_for : Items → List (TypeTree × List ℕ) → Bool
are_types_for items pairs = list_all (λ p. is_type items p.0) pairs

abbrev pub are_typed_for : Items → List (Nameless × (List ℕ × TypeTree)) → Bool
are_typed_for items pairs = list_all (λ p. has_type items p.0 p.1.1) pairs

abbrev pub AreTypes : Items → List (TypeTree × List ℕ) → Type 0
AreTypes items pairs = IsTrue (are_types_for items pairs)

abbrev pub AreTyped : Items → List (Nameless × (List ℕ × TypeTree)) → Type 0
AreTyped items pairs = IsTrue (are_typed_for items pairs)
