-- The names and codes that the program's values stand for. Clauses of other crates say them by these words alone.
use Rattle.std.specs.Prelude.{ℕ, List, String, map, string_bytes}
use Rattle.std.specs.Global.{Global}
use Rattle.hol_goal.specs.declared.tac_code.TacCode.{TacCode}
use Rattle.hol_registry.specs.declared.entry.Entry.{Entry}
use Rattle.hol_registry.specs.declared.registry.Registry.{Registry}

abbrev pub name : {X W g : _} → Entry X W g → List ℕ
name entry = string_bytes entry.name

-- the name and the code of an entry
abbrev pub row : {X W g : _} → Entry X W g → List ℕ × TacCode
row entry = (name entry, entry.code)

-- the name and the code that are listed
abbrev pub listed : String Global × TacCode → List ℕ × TacCode
listed named = (string_bytes named.0, named.1)

-- those of the entries, in order
abbrev pub table : {X W g : _} → Registry X W g → List (List ℕ × TacCode)
table registry = map row registry.entries.items
