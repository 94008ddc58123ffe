-- What is stored beside a closure has one proof at most.
use Rattle.std.specs.Prelude.{ℕ, List, [], ◌∷◌, Result, Ok, Err, IfOk}
use Rattle.std.specs.Coded.{Coded-set, coded_ℕ, coded_list, Unit-prop, ×_prop, Π_prop}
use Rattle.hol_goal.specs.Goal.{GoalValue, goal_code}
use Rattle.hol_goal.specs.Answer.{UsedValue, starting, AnswerResult, Left, Unfit, OutOfTurns, TooLarge}
use Rattle.hol_goal.specs.Arguments.{TacArgsValue}
use Rattle.hol_goal.specs.declared.tac_code.TacCode.{TacCode}
use Rattle.hol_just.specs.Tac.{Meaning, tac}
use Rattle.hol_just.specs.Answering.{IsResult, IsAnswered, AnswersCode, IsJustified, suits}
use Rattle.hol_just.specs.declared.tried.Tried.{Tried}
use Rattle.hol_just.specs.declared.tried.TacFault.{TacFault}
use Rattle.hol_just.specs.declared.tried.TacFault.TheVariants as fault
use Rattle.hol_just.specs.Proposition.{valid_prop}

result_prop : (answer : AnswerResult) (used : UsedValue) (result : Result Tried TacFault) → IsProp (IsResult answer used result)
result_prop (Left goals) used (Ok tried) = ×_prop (Coded-set (coded_list goal_code) _ _) (×_prop (Coded-set coded_ℕ _ _) (Coded-set (coded_list (coded_list coded_ℕ)) _ _))
result_prop (Left goals) used (Err (fault.Refused left tested)) = hlevel
result_prop (Left goals) used (Err (fault.TurnLimit tested)) = hlevel
result_prop (Left goals) used (Err (fault.TooLarge tested)) = hlevel
result_prop (Left goals) used (Err fault.Memory) = Unit-prop
result_prop Unfit used (Ok tried) = hlevel
result_prop Unfit used (Err (fault.Refused left tested)) = ×_prop (Coded-set coded_ℕ _ _) (Coded-set (coded_list (coded_list coded_ℕ)) _ _)
result_prop Unfit used (Err (fault.TurnLimit tested)) = hlevel
result_prop Unfit used (Err (fault.TooLarge tested)) = hlevel
result_prop Unfit used (Err fault.Memory) = Unit-prop
result_prop OutOfTurns used (Ok tried) = hlevel
result_prop OutOfTurns used (Err (fault.Refused left tested)) = hlevel
result_prop OutOfTurns used (Err (fault.TurnLimit tested)) = ×_prop (Coded-set coded_ℕ _ _) (Coded-set (coded_list (coded_list coded_ℕ)) _ _)
result_prop OutOfTurns used (Err (fault.TooLarge tested)) = hlevel
result_prop OutOfTurns used (Err fault.Memory) = Unit-prop
result_prop TooLarge used (Ok tried) = hlevel
result_prop TooLarge used (Err (fault.Refused left tested)) = hlevel
result_prop TooLarge used (Err (fault.TurnLimit tested)) = hlevel
result_prop TooLarge used (Err (fault.TooLarge tested)) = Coded-set (coded_list (coded_list coded_ℕ)) _ _
result_prop TooLarge used (Err fault.Memory) = Unit-prop

answered_prop : (meaning : Meaning) (args : TacArgsValue) (goal : GoalValue) (turns : ℕ) (result : Result Tried TacFault) → IsProp (IsAnswered (meaning args goal (starting turns)) result)
answered_prop f args goal turns result = let used : UsedValue = starting turns in result_prop (f args goal used).result (f args goal used).used result

pub answers_prop : (code : TacCode) (args : TacArgsValue) (goal : GoalValue) (names : List (List ℕ)) (turns : ℕ) (result : Result Tried TacFault) → IsProp (AnswersCode code args goal names turns result)
answers_prop code args goal names = answered_prop (tac names code) args goal

pub justified_prop : (args : TacArgsValue) (goal : GoalValue) (result : Result Tried TacFault) → IsProp (IfOk result (λ tried. IsJustified args goal tried.step))
justified_prop args goal (Ok tried) = Π_prop (λ extra. Π_prop (λ _. valid_prop (suits args) extra tried.step.just (goal ∷ []) tried.step.goals.items))
justified_prop args goal (Err fault) = Unit-prop
