-- Patterns whose variables are apart, so that no match takes one for another.
-- Source: this project. HOL Light tells variables apart by name and type, and its MATCH_MP_TAC generalizes the theorem (GEN_ALL) before it matches; that a pattern's
-- variables are called apart by name, so that no two of them become one where types are instantiated, is this project's rule.
use Rattle.std.specs.Prelude.{ℕ, List, [], ◌∷◌, Bool, not, ◌||◌, bytes_eq}
use Rattle.std.specs.List.{list_all}
use Rattle.hol_types.specs.Tree.{TypeTree}
use Rattle.hol_types.specs.Equal.{type_eq}
use Rattle.hol_terms.specs.Nameless.{Nameless}
use Rattle.hol_match.specs.Fixed.{fixed_variables}
use Rattle.hol_match.specs.Rules.{pattern_variables}

-- those of the variables that have the name of v have its type
abbrev pub has_one_type : List (List ℕ × TypeTree) → List ℕ × TypeTree → Bool
has_one_type vs v = list_all (λ w. not (bytes_eq v.0 w.0) || type_eq v.1 w.1) vs

-- no pattern variable of p has the name of another free variable of p or of the terms that stay
abbrev pub is_apart : List Nameless → Nameless → Bool
is_apart terms p = list_all (has_one_type (fixed_variables [] (p ∷ terms))) (pattern_variables (fixed_variables [] terms) p)
