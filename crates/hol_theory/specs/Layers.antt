-- Entries in layers, of which private clauses speak alone.
-- Source: this project.
use Rattle.std.specs.Prelude.{List, [], ◌∷◌, ◌++◌}
use Rattle.hol_theory.specs.Entry.{Entries}

-- the entries of the layers, one after the other
abbrev pub joined : List Entries → Entries
joined [] = []
joined (entries ∷ layers) = entries ++ joined layers
