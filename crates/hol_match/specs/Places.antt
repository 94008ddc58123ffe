-- What the code asks of named terms under binders, cited by private contracts alone. Laws in proofs/ lead from here to nameless terms.
use Rattle.std.specs.Prelude.{List, [], ◌∷◌, ℕ, Bool, false, ◌||◌}
use Rattle.hol_types.specs.Tree.{TypeTree}
use Rattle.hol_types.specs.Equal.{variable_eq}
use Rattle.hol_terms.specs.Named.{Named, var, constant, comb, abs}
use Rattle.hol_terms.specs.Scoped.{occurs_in}

-- one of the variables is free in the term
abbrev pub has_one_of : List (List ℕ × TypeTree) → Named → Bool
has_one_of [] t = false
has_one_of (u ∷ env) t = occurs_in u t || has_one_of env t

-- the term is this variable
abbrev pub is_variable : Named → List ℕ × TypeTree → Bool
is_variable (var w) v = variable_eq w v
is_variable (constant c s) v = false
is_variable (comb f x) v = false
is_variable (abs w b) v = false
