-- The keys of theories that are held whole. Only the view of changed keys speaks of it.
use Rattle.std.specs.Prelude.{List, [], ◌∷◌, ◌++◌}
use Rattle.std.specs.Map.{keys_of}
use Rattle.hol_theory.specs.Key.{KeyValue}
use Rattle.hol_theory.specs.Entry.{Entries}

abbrev pub all_keys : List Entries → List KeyValue
all_keys [] = []
all_keys (entries ∷ theories) = keys_of entries ++ all_keys theories
