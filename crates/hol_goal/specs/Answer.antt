-- What a function on goals answers: the goals that it leaves, or that it does not fit, or that turns ran out, or that a term became too large; and what a run may still use
-- after it, with the names that it tested.
-- Source: the tactics of the HOL Light Reference Manual; turns and the limit on sizes are this project's.
use Rattle.std.specs.Prelude.{ℕ, List, [], ◌++◌, Option, Some, None}
use Rattle.hol_goal.specs.Goal.{GoalValue}

-- what a run may still use, turns; and of which names it was tested so far whether constants have them, in order
pub record UsedValue : Type 0 where
  pub turns_left : ℕ
  pub tested : List (List ℕ)

-- a run that starts has tested none
abbrev pub starting : ℕ → UsedValue
starting turns = record { turns_left = turns; tested = [] }

-- these were tested after those before
abbrev pub testing : List (List ℕ) → UsedValue → UsedValue
testing tested used = record used { tested = used.tested ++ tested }

-- the goals that are left, or the function doesn't fit the goal, or it had no turn left to go on with, or a turn made a term of over 20,000 nodes
pub data AnswerResult : Type 0 where
  Left : List GoalValue → AnswerResult
  Unfit : AnswerResult
  OutOfTurns : AnswerResult
  TooLarge : AnswerResult

pub record AnswerValue : Type 0 where
  pub result : AnswerResult
  pub used : UsedValue

abbrev pub result_of : Option (List GoalValue) → AnswerResult
result_of None = Unfit
result_of (Some goals) = Left goals

-- the answer of a function that uses nothing
abbrev pub answered : Option (List GoalValue) → UsedValue → AnswerValue
answered goals used = record { result = result_of goals; used = used }

-- the answer of a function that calls a variable by a new name: the goals, and the names that it tested
abbrev pub naming : Option (List GoalValue × List (List ℕ)) → UsedValue → AnswerValue
naming None used = answered None used
naming (Some r) used = record { result = Left r.0; used = testing r.1 used }
