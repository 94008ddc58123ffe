-- What a registered function answers. Only private clauses speak of it.
use Rattle.std.specs.Prelude.{ℕ, Option, Some, None, Result, slice_get, IfSome}
use Rattle.hol_goal.specs.Goal.{GoalValue}
use Rattle.hol_goal.specs.Answer.{starting}
use Rattle.hol_goal.specs.Arguments.{TacArgsValue}
use Rattle.hol_just.specs.Tac.{Meaning}
use Rattle.hol_just.specs.Answering.{IsAnswered, AnswersCode}
use Rattle.hol_just.specs.declared.tried.Tried.{Tried}
use Rattle.hol_just.specs.declared.tried.TacFault.{TacFault}
use Rattle.hol_combine.specs.Runs.{KnownValue}

-- that of a meaning, where there is one
abbrev pub IsAnsweredBy : Option Meaning → TacArgsValue → GoalValue → ℕ → Result Tried TacFault → Type 0
IsAnsweredBy None args goal turns result = ⊥
IsAnsweredBy (Some f) args goal turns result = IsAnswered (f args goal (starting turns)) result

-- that of the code at the index
abbrev pub IsCalled : KnownValue → ℕ → TacArgsValue → GoalValue → ℕ → Result Tried TacFault → Type 0
IsCalled known index args goal turns result = IfSome (slice_get known.table index) (λ row. AnswersCode row.1 args goal known.names turns result)
