-- The type variables of a term (fusion.ml, type_vars_in_term).
use Rattle.std.specs.Prelude.{ℕ, Bool, List, [], ◌++◌}
use Rattle.std.specs.List.{list_all}
use Rattle.hol_types.specs.Names.{tyvars, insert_names, is_among}
use Rattle.hol_terms.specs.Nameless.{Nameless, free, bound, fixed, app, lam}

-- the names of the type variables in the types of a term, each once, by bytes
abbrev pub type_names_in : Nameless → List (List ℕ)
type_names_in (free v) = tyvars v.1
type_names_in (bound i) = []
type_names_in (fixed c s) = tyvars s
type_names_in (app f x) = type_names_in f ++ type_names_in x
type_names_in (lam a s b) = tyvars s ++ type_names_in b

abbrev pub term_tyvars : Nameless → List (List ℕ)
term_tyvars t = insert_names [] (type_names_in t)

-- each of the names is one of the others
abbrev pub are_among : List (List ℕ) → List (List ℕ) → Bool
are_among own names = list_all (is_among own) names
