-- Closed terms, as a test.
use Rattle.std.specs.Prelude.{ℕ, List, [], ◌∷◌, Bool, true, false}
use Rattle.hol_types.specs.Tree.{TypeTree}
use Rattle.hol_terms.specs.Nameless.{Nameless, free_occurrences}

abbrev pub has_none : List (List ℕ × TypeTree) → Bool
has_none [] = true
has_none (v ∷ vs) = false

-- no variable is free in the term
abbrev pub is_closed : Nameless → Bool
is_closed t = has_none (free_occurrences t)
