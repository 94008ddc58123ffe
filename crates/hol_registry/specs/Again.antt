-- Where a name is met again. Only private clauses speak of it.
use Rattle.std.specs.Prelude.{ℕ, ◌<◌, List, [], length, bytes_eq, Option, Some, None, slice_index_or}
use Rattle.std.specs.List.{IsDistinct}
use Rattle.hol_registry.specs.Table.{IsMetAgain}

-- the names differ, or the first that is met again stands at the index
abbrev pub FindsAgain : List (List ℕ) → Option ℕ → Type 0
FindsAgain names None = IsDistinct bytes_eq names
FindsAgain names (Some i) = (i < length names) × IsMetAgain names (slice_index_or names i [])
