-- The name of the TAC that a tactic expression begins with. Source: this project.
use Rattle.std.specs.Prelude.{ℕ, List, []}
use Rattle.hol_notation_tactics.specs.Text.{TacText, TacTexts, Call, Then, ThenL, OrElse, Repeat, Try, Changed, Every, First, Replicate, DischThen, PopAssum, FirstAssum, SubgoalThen, no_tacs, more_tacs}

abbrev mutual
  pub leading_name : TacText → List ℕ
  leading_name (Call c) = c.name
  leading_name (Then t u) = leading_name t
  leading_name (ThenL t us) = leading_name t
  leading_name (OrElse t u) = leading_name t
  leading_name (Repeat t) = leading_name t
  leading_name (Try t) = leading_name t
  leading_name (Changed t) = leading_name t
  leading_name (Every ts) = leading_name_of_first ts
  leading_name (First ts) = leading_name_of_first ts
  leading_name (Replicate n t) = leading_name t
  leading_name (DischThen c) = c.name
  leading_name (PopAssum c) = c.name
  leading_name (FirstAssum c) = c.name
  leading_name (SubgoalThen p c) = c.name

  -- none where there is no tactic expression
  pub leading_name_of_first : TacTexts → List ℕ
  leading_name_of_first no_tacs = []
  leading_name_of_first (more_tacs t ts) = leading_name t
