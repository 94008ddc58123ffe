-- What private clauses say of the filters of names that stand beside keys.
use Rattle.std.specs.Prelude.{◌≡◌, ℕ, List, [], ◌∷◌}
use Rattle.std.specs.Int.{bit_at}
use Rattle.hol_types.specs.Filter.{name_place}
use Rattle.hol_theory.specs.Key.{KeyValue}

-- the filter of these bits has the name of each key
abbrev pub HasNames : ℕ → List KeyValue → Type 0
HasNames bits [] = Unit {0}
HasNames bits (key ∷ keys) = (bit_at bits (name_place 0 key.name) ≡ 1) × HasNames bits keys
