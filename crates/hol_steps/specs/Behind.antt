-- What the code says of a search among assumptions. Only its invariant speaks of it.
use Rattle.std.specs.Prelude.{List, ◌++◌, Option}
use Rattle.std.specs.Option.{option_map}
use Rattle.hol_terms.specs.Nameless.{Nameless}

-- what was found, and the others, with those before them
abbrev pub behind : List Nameless → Option (Nameless × List Nameless) → Option (Nameless × List Nameless)
behind newer o = option_map (λ r. (r.0, newer ++ r.1)) o
