-- The constants and types that stand for the readings of a command: generic types of constants and arities of type constructors, by name.
-- Source: this project.
use Rattle.std.specs.Prelude.{ℕ, List}
use Rattle.hol_types.specs.Tree.{TypeTree}

pub record SignatureValue : Type 0 where
  pub constants : List (List ℕ × TypeTree)
  pub types : List (List ℕ × ℕ)
