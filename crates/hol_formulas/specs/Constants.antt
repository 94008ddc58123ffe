-- The types and constants of the prelude, and what is an instance of a generic type.
use Rattle.std.specs.Prelude.{ℕ, Bool, false, cond, ◌&&◌, ◌==◌, List, [], ◌∷◌, bytes_eq, codes, Option, Some, None, is_some}
use Rattle.hol_types.specs.Tree.{TypeTree, TyVar}
use Rattle.hol_types.specs.Basic.{basic_constructors}
use Rattle.hol_types.specs.Fun.{fun_type}
use Rattle.hol_types.specs.Match.{match_type}
use Rattle.hol_formulas.specs.Equation.{bool_type, equality_type}
use Rattle.hol_formulas.specs.Formula.{negation_type, connective_type, quantifier_type}

-- ---- the prelude

-- each type constructor of the prelude with its arity
abbrev pub prelude_types : List (List ℕ × ℕ)
prelude_types = basic_constructors

abbrev pub var_a : TypeTree
var_a = TyVar (codes "A")

abbrev pub var_b : TypeTree
var_b = TyVar (codes "B")

-- (A->bool)->bool
abbrev pub binder_type : TypeTree
binder_type = quantifier_type var_a

-- (A->bool)->A
abbrev pub choice_type : TypeTree
choice_type = fun_type (fun_type var_a bool_type) var_a

-- (A->B)->bool
abbrev pub function_property_type : TypeTree
function_property_type = fun_type (fun_type var_a var_b) bool_type

-- each constant of the prelude with its generic type
abbrev pub prelude_constants : List (List ℕ × TypeTree)
prelude_constants =
    (codes "=", equality_type var_a)
    ∷ (codes "@", choice_type)
    ∷ (codes "T", bool_type)
    ∷ (codes "F", bool_type)
    ∷ (codes "/\\", connective_type)
    ∷ (codes "\\/", connective_type)
    ∷ (codes "==>", connective_type)
    ∷ (codes "~", negation_type)
    ∷ (codes "!", binder_type)
    ∷ (codes "?", binder_type)
    ∷ (codes "?!", binder_type)
    ∷ (codes "ONE_ONE", function_property_type)
    ∷ (codes "ONTO", function_property_type)
    ∷ []

abbrev pub prelude_axioms : List (List ℕ)
prelude_axioms = codes "ETA_AX" ∷ codes "SELECT_AX" ∷ codes "INFINITY_AX" ∷ []

abbrev pub is_constructor : List ℕ → ℕ → List ℕ × ℕ → Bool
is_constructor c n p = bytes_eq c p.0 && (n == p.1)

-- some substitution for the type variables of the first type gives the second, as matching finds it
abbrev pub is_instance : TypeTree → TypeTree → Bool
is_instance generic a = is_some (match_type generic [] a)

-- the generic type of a constant of the prelude
abbrev pub generic_in : List (List ℕ × TypeTree) → List ℕ → Option TypeTree
generic_in [] c = None
generic_in (p ∷ more) c = cond (bytes_eq c p.0) (Some p.1) (generic_in more c)

abbrev pub prelude_generic : List ℕ → Option TypeTree
prelude_generic c = generic_in prelude_constants c

abbrev pub is_instance_of : Option TypeTree → TypeTree → Bool
is_instance_of None a = false
is_instance_of (Some generic) a = is_instance generic a

abbrev pub is_constant_at : List ℕ → TypeTree → List ℕ × TypeTree → Bool
is_constant_at c a p = bytes_eq c p.0 && is_instance p.1 a
