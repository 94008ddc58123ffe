-- Terms whose types and constants stand over every basis: those of the prelude, each constant at an instance of its generic type, which the
-- form of the type tells.
-- Source: HOL Light's fusion.ml (bool, fun, =), nums.ml (ind, ONE_ONE, ONTO), class.ml (@) and bool.ml (the others).
use Rattle.std.specs.Prelude.{ℕ, Bool, true, false, cond, ◌&&◌, List, [], ◌∷◌, bytes_eq, codes, Option, Some, None, is_some}
use Rattle.hol_types.specs.Tree.{TypeTree}
use Rattle.hol_types.specs.Equal.{type_eq}
use Rattle.hol_types.specs.Fun.{fun_parts}
use Rattle.hol_types.specs.Basic.{is_basic, is_bool}
use Rattle.hol_terms.specs.Named.{Named, var, constant, comb, abs}

-- ---- the forms of types. Where a domain and a range are passed, they are those of a type of functions

-- a->bool
abbrev pub is_property : TypeTree → Option (TypeTree × TypeTree) → Bool
is_property a None = false
is_property a (Some p) = type_eq p.0 a && is_bool p.1

-- a->bool, for some a
abbrev pub is_predicate : Option (TypeTree × TypeTree) → Bool
is_predicate None = false
is_predicate (Some p) = is_bool p.1

-- a->a->bool, for some a
abbrev pub is_equality : Option (TypeTree × TypeTree) → Bool
is_equality None = false
is_equality (Some p) = is_property p.0 (fun_parts p.1)

-- (a->bool)->a, for some a
abbrev pub is_choice : Option (TypeTree × TypeTree) → Bool
is_choice None = false
is_choice (Some p) = is_property p.1 (fun_parts p.0)

-- bool->bool
abbrev pub is_negation : Option (TypeTree × TypeTree) → Bool
is_negation None = false
is_negation (Some p) = is_bool p.0 && is_bool p.1

-- bool->bool->bool
abbrev pub is_connective : Option (TypeTree × TypeTree) → Bool
is_connective None = false
is_connective (Some p) = is_bool p.0 && is_negation (fun_parts p.1)

-- (a->bool)->bool, for some a
abbrev pub is_binder : Option (TypeTree × TypeTree) → Bool
is_binder None = false
is_binder (Some p) = is_predicate (fun_parts p.0) && is_bool p.1

-- (a->b)->bool, for some a and b
abbrev pub is_function_property : Option (TypeTree × TypeTree) → Bool
is_function_property None = false
is_function_property (Some p) = is_some (fun_parts p.0) && is_bool p.1

-- ---- the constants

-- each with the form of its types
abbrev pub basic_constants : List (List ℕ × (TypeTree → Bool))
basic_constants =
    (codes "=", λ s. is_equality (fun_parts s))
    ∷ (codes "@", λ s. is_choice (fun_parts s))
    ∷ (codes "T", λ s. is_bool s)
    ∷ (codes "F", λ s. is_bool s)
    ∷ (codes "/\\", λ s. is_connective (fun_parts s))
    ∷ (codes "\\/", λ s. is_connective (fun_parts s))
    ∷ (codes "==>", λ s. is_connective (fun_parts s))
    ∷ (codes "~", λ s. is_negation (fun_parts s))
    ∷ (codes "!", λ s. is_binder (fun_parts s))
    ∷ (codes "?", λ s. is_binder (fun_parts s))
    ∷ (codes "?!", λ s. is_binder (fun_parts s))
    ∷ (codes "ONE_ONE", λ s. is_function_property (fun_parts s))
    ∷ (codes "ONTO", λ s. is_function_property (fun_parts s))
    ∷ []

-- the first constant of the name has the type's form
abbrev pub has_form : List (List ℕ × (TypeTree → Bool)) → List ℕ → TypeTree → Bool
has_form [] c s = false
has_form (p ∷ more) c s = cond (bytes_eq c p.0) (p.1 s) (has_form more c s)

abbrev pub is_basic_constant : List ℕ → TypeTree → Bool
is_basic_constant c s = has_form basic_constants c s

-- ---- terms
abbrev pub is_basic_term : Named → Bool
is_basic_term (var v) = is_basic v.1
is_basic_term (constant c s) = is_basic s && is_basic_constant c s
is_basic_term (comb f x) = is_basic_term f && is_basic_term x
is_basic_term (abs v b) = is_basic v.1 && is_basic_term b
