-- The list that the code's parts of names stand for. Only its clauses speak of it.
use Rattle.std.specs.Prelude.{ℕ, List, [], ◌∷◌, ◌++◌}

abbrev pub all_names : List (List (List ℕ)) → List (List ℕ)
all_names [] = []
all_names (part ∷ parts) = part ++ all_names parts
