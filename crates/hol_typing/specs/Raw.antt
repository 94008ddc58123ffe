-- Terms with identifiers resolved and without types, which inference starts from.
-- Source: HOL Light's preterm.ml, the preterms that retypecheck gets.
use Rattle.std.specs.Prelude.{ℕ, List, Option}
use Rattle.hol_types.specs.Tree.{TypeTree}

-- An index counts the enclosing abstractions from the inside, from 0. A constant has its generic type.
pub data RawTree : Type 0 where
  RawBound : ℕ → RawTree
  RawConstant : List ℕ → TypeTree → RawTree
  RawFree : List ℕ → RawTree
  RawApply : RawTree → RawTree → RawTree
  RawAbstraction : List ℕ → Option TypeTree → RawTree → RawTree
  RawAnnotated : RawTree → TypeTree → RawTree
