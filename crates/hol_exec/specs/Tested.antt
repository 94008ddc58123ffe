-- The names that the run of a command tested, each with whether a constant had it: beside what it reads, its outcome depends on these alone.
-- Source: this project.
use Rattle.std.specs.Prelude.{ℕ, List, [], ◌∷◌, Bool, map}
use Rattle.std.specs.Bool.{beq}
use Rattle.std.specs.List.{list_all}
use Rattle.hol_goal.specs.Names.{stands}
use Rattle.hol_theory.specs.Constants.{constant_names}
use Rattle.hol_theory.specs.Entry.{Entries}

abbrev pub TestedValue : Type 0
TestedValue = List (List ℕ × Bool)

-- where constants have these names
abbrev pub marked : List (List ℕ) → List (List ℕ) → TestedValue
marked names tested = map (λ a. (a, stands names a)) tested

abbrev pub is_marked : List (List ℕ) → List ℕ × Bool → Bool
is_marked names t = beq (stands names t.0) t.1

-- whether each is marked as the constants among the entries have it
abbrev pub agrees : TestedValue → Entries → Bool
agrees tested entries = list_all (is_marked (constant_names entries)) tested
