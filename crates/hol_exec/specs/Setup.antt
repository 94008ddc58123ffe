-- What is fixed for a run: the registered functions on goals by name and code, and the number of turns that a command has.
-- Source: this project.
use Rattle.std.specs.Prelude.{ℕ, List}
use Rattle.hol_goal.specs.declared.tac_code.TacCode.{TacCode}

pub record SetupValue : Type 0 where
  pub table : List (List ℕ × TacCode)
  pub turns : ℕ
