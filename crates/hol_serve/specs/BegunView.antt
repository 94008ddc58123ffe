-- What only private functions speak of: codes whose functions the program can register.
use Rattle.std.specs.Prelude.{◌&&◌, ℕ, List, [], ◌∷◌, Bool, true, not, bytes_eq}
use Rattle.std.specs.List.{list_all}
use Rattle.hol_goal.specs.TacNames.{tac_name}
use Rattle.hol_goal.specs.declared.tac_code.TacCode.{TacCode}

-- a function under the name of its code
abbrev pub row_of : TacCode → List ℕ × TacCode
row_of code = (tac_name code, code)

-- no name stands twice
abbrev pub names_differ : List (List ℕ) → Bool
names_differ [] = true
names_differ (name ∷ names) = list_all (λ other. not (bytes_eq name other)) names && names_differ names
