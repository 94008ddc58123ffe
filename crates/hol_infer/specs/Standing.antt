-- Terms over what stands: each type constructor takes so many arguments as `takes` says, each constant has a type that `has` says, and
-- each bound variable has a base name.
-- Source: fusion.ml, mk_type and mk_const.
use Rattle.std.specs.Prelude.{◌≡◌, ℕ, Bool, true, ◌&&◌, List, codes, Some}
use Rattle.hol_types.specs.Tree.{TypeTree, TypeList, TyVar, TyApp, no_types, more_types}
pub use Rattle.hol_types.specs.Tree.{types_count}
use Rattle.hol_types.specs.Fun.{fun_type}
use Rattle.hol_types.specs.Subst.{type_subst}
use Rattle.hol_terms.specs.Nameless.{Nameless, free, bound, fixed, app, lam, base_of}
use Rattle.hol_infer.specs.Resolving.{arity_of, generic_type_of, bool_type}

abbrev mutual
  pub stands : (List ℕ → ℕ → Bool) → TypeTree → Bool
  stands takes (TyVar a) = true
  stands takes (TyApp c ts) = takes c (types_count ts) && all_stand takes ts

  pub all_stand : (List ℕ → ℕ → Bool) → TypeList → Bool
  all_stand takes no_types = true
  all_stand takes (more_types t ts) = stands takes t && all_stand takes ts

abbrev pub TermStands : (List ℕ → ℕ → Bool) → (List ℕ → TypeTree → Bool) → Nameless → Type 0
TermStands takes has (free v) = stands takes v.1 ≡ true
TermStands takes has (bound i) = Unit {0}
TermStands takes has (fixed c s) = (stands takes s ≡ true) × (has c s ≡ true)
TermStands takes has (app f x) = TermStands takes has f × TermStands takes has x
TermStands takes has (lam a s b) = (base_of a ≡ a) × (stands takes s ≡ true) × TermStands takes has b

-- The two lists that a reading is among stand: a constructor of the first takes so many arguments, a constant of the second has each
-- instance of its generic type; and functions, truth values and their equality stand.
pub record AreStanding (takes : List ℕ → ℕ → Bool) (has : List ℕ → TypeTree → Bool) (arities : List (List ℕ × ℕ)) (constants : List (List ℕ × TypeTree)) : Type 0 where
  pub functions : takes (codes "fun") 2 ≡ true
  pub truth : takes (codes "bool") 0 ≡ true
  pub equality : has (codes "=") (fun_type bool_type (fun_type bool_type bool_type)) ≡ true
  pub constructors : (c : List ℕ) (n : ℕ) → arity_of arities c ≡ Some n → takes c n ≡ true
  pub generics : (c : List ℕ) (generic : TypeTree) → generic_type_of constants c ≡ Some generic → (stands takes generic ≡ true) × ((pairs : List (TypeTree × List ℕ)) → has c (type_subst pairs generic) ≡ true)
