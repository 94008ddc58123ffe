-- What a match leaves as it is: the type variables and the free variables of some terms, such as a theorem's hypotheses.
use Rattle.std.specs.Prelude.{◌≡◌, ℕ, List, [], ◌∷◌, ◌++◌, Bool, cond, ◌&&◌}
use Rattle.std.specs.List.{list_all}
use Rattle.hol_types.specs.Tree.{TypeTree}
use Rattle.hol_types.specs.Names.{is_among}
use Rattle.hol_terms.specs.Nameless.{Nameless, free_occurrences}
use Rattle.hol_terms.specs.Scoped.{binds, add_all}
use Rattle.hol_subst.specs.TermTyvars.{term_tyvars}
use Rattle.hol_match.specs.Instance.{InstanceValue, staying}
use Rattle.hol_match.specs.declared.fixed.Fixed.{Fixed}

-- the names after those that are there already, each once
abbrev pub add_name : List (List ℕ) → List ℕ → List (List ℕ)
add_name names a = cond (is_among names a) names (names ++ a ∷ [])

abbrev pub add_names : List (List ℕ) → List (List ℕ) → List (List ℕ)
add_names names [] = names
add_names names (a ∷ more) = add_names (add_name names a) more

-- the type variables of the terms, each once, after others
abbrev pub fixed_names : List (List ℕ) → List Nameless → List (List ℕ)
fixed_names names [] = names
fixed_names names (t ∷ terms) = fixed_names (add_names names (term_tyvars t)) terms

-- the free variables of the terms, each once, after others
abbrev pub fixed_variables : List (List ℕ × TypeTree) → List Nameless → List (List ℕ × TypeTree)
fixed_variables variables [] = variables
fixed_variables variables (t ∷ terms) = fixed_variables (add_all variables (add_all [] (free_occurrences t))) terms

-- the terms' variables, each given itself
abbrev pub stays_of : List Nameless → InstanceValue
stays_of terms = staying (fixed_names [] terms) (fixed_variables [] terms)

-- each variable and each type variable of the term is one of these
abbrev pub all_stay : List (List ℕ) → List (List ℕ × TypeTree) → Nameless → Bool
all_stay names variables t = list_all (binds variables) (add_all [] (free_occurrences t)) && list_all (is_among names) (term_tyvars t)

-- the same of what the program keeps of the terms
abbrev pub stays : Fixed → InstanceValue
stays f = staying f.names.items f.variables.items

-- the program keeps these of the terms
abbrev pub AreFixed : List Nameless → Fixed → Type 0
AreFixed terms f = (f.names.items ≡ fixed_names [] terms) × (f.variables.items ≡ fixed_variables [] terms)
