-- What a run knows, by its parts, and what it tested.
-- Source: this project.
use Rattle.std.specs.Prelude.{ℕ, List}
use Rattle.hol_goal.specs.declared.tac_code.TacCode.{TacCode}
use Rattle.hol_combine.specs.Runs.{KnownValue, RunValue, Leaves, Refuses, Stops}

abbrev pub known : List (List ℕ × TacCode) → List (List ℕ) → KnownValue
known table names = record { table = table; names = names }

-- the names that the run tested, in order
abbrev pub tested_of : RunValue → List (List ℕ)
tested_of (Leaves goals used) = used.tested
tested_of (Refuses why used) = used.tested
tested_of (Stops why tested) = tested
