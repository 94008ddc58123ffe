-- Tables of registered functions on goals: names and codes, in order. Source: this project.
use Rattle.std.specs.Prelude.{◌≡◌, ℕ, List, ◌∷◌, ◌++◌, bytes_eq, position, Option}
use Rattle.std.specs.List.{Contains, IsDistinct}
use Rattle.hol_goal.specs.declared.tac_code.TacCode.{TacCode}

-- the index of the first row of the name
abbrev pub index_of : List ℕ → List (List ℕ × TacCode) → Option ℕ
index_of name rows = position (λ row. bytes_eq row.0 name) rows

-- the name is the first that is met again: those before it differ, and it is one of them
pub record IsMetAgain (all : List (List ℕ)) (name : List ℕ) : Type 0 where
  pub before : List (List ℕ)
  pub after : List (List ℕ)
  pub stands : all ≡ before ++ name ∷ after
  pub differ : IsDistinct bytes_eq before
  pub again : Contains before name
