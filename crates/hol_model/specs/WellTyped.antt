-- What it is to be well typed, in the words of the simple theory of types: which constructors and constants stand, and what is asked of each form of term. By
-- laws of definitions.rt this is so of whatever the tests of hol_kernel's Signature.antt and Typing.antt let through.
-- Source: A. Church, A Formulation of the Simple Theory of Types (Journal of Symbolic Logic 5, 1940); for type variables and generic types fusion.ml.
use Rattle.std.specs.Prelude.{◌≡◌, ℕ, ◌⊎◌, List, [], ◌∷◌, Contains, Some, slice_get}
use Rattle.hol_types.specs.Tree.{TypeTree, TypeList, TyVar, TyApp, no_types, more_types, types_count}
use Rattle.hol_types.specs.Fun.{fun_type}
use Rattle.hol_types.specs.Subst.{type_subst}
use Rattle.hol_terms.specs.Nameless.{Nameless, free, bound, fixed, app, lam, base_of}
use Rattle.hol_formulas.specs.Constants.{prelude_types, prelude_constants}
use Rattle.hol_formulas.specs.Equation.{bool_type}
use Rattle.hol_kernel.specs.Item.{Item, declared_type, declared_constant, defined_constant, defined_type, declared_axiom}
use Rattle.hol_kernel.specs.Items.{Items, Holds}
use Rattle.hol_kernel.specs.Signature.{item_types, item_constants}

-- the prelude or an item makes the type constructor c, of n arguments
abbrev pub IsConstructor : Items → List ℕ → ℕ → Type 0
IsConstructor items c n = Contains prelude_types (c, n) ⊎ ((x : Item) × Holds items x × Contains (item_types x) (c, n))

-- each constructor in the type is one, with so many arguments
abbrev mutual
  pub Stands : Items → TypeTree → Type 0
  Stands items (TyVar a) = Unit {0}
  Stands items (TyApp c ts) = IsConstructor items c (types_count ts) × AllStand items ts

  pub AllStand : Items → TypeList → Type 0
  AllStand items no_types = Unit {0}
  AllStand items (more_types t ts) = Stands items t × AllStand items ts

-- the prelude or an item makes the constant c, and types for the variables of its generic type give a
abbrev pub IsConstant : Items → List ℕ → TypeTree → Type 0
IsConstant items c a =
    (g : TypeTree) × ((pairs : List (TypeTree × List ℕ)) × (type_subst pairs g ≡ a))
    × (Contains prelude_constants (c, g) ⊎ ((x : Item) × Holds items x × Contains (item_constants x) (c, g)))

-- the term has the type a, under binders of the types env
abbrev pub IsOfType : Items → List TypeTree → Nameless → TypeTree → Type 0
IsOfType items env (free v) a = Stands items v.1 × (v.1 ≡ a)
IsOfType items env (bound i) a = slice_get env i ≡ Some a
IsOfType items env (fixed c s) a = Stands items s × IsConstant items c s × (s ≡ a)
IsOfType items env (app f x) b = (a : TypeTree) × IsOfType items env f (fun_type a b) × IsOfType items env x a
IsOfType items env (lam n s t) a = (base_of n ≡ n) × Stands items s × ((b : TypeTree) × IsOfType items (s ∷ env) t b × (fun_type s b ≡ a))

-- the types and terms of an item are well typed
abbrev pub IsItemTyped : Items → Item → Type 0
IsItemTyped items (declared_type c n) = Unit {0}
IsItemTyped items (declared_constant c a) = Stands items a
IsItemTyped items (defined_constant c r) = (a : TypeTree) × IsOfType items [] r a
IsItemTyped items (defined_type c abs rep p) = (s : TypeTree) × IsOfType items [] p (fun_type s bool_type)
IsItemTyped items (declared_axiom n p) = IsOfType items [] p bool_type
