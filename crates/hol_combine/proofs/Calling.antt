-- What a registered function answers, as the run of a call.
use Rattle.std.specs.Prelude.{◌≡◌, ◌<◌, ◌≤◌, ℕ, zero, suc, true, List, [], ◌∷◌, ◌++◌, length, Option, Some, None, Result, Ok, Err, IfOk, refl}
use Rattle.std.proofs.Common.{ap, sym, subst, arith}
use Rattle.hol_kernel.specs.Sequent.{no_hyps}
use Rattle.hol_goal.specs.Goal.{GoalValue}
use Rattle.hol_goal.specs.Answer.{UsedValue, starting, AnswerResult, AnswerValue, Left, Unfit, OutOfTurns, TooLarge}
use Rattle.hol_goal.specs.Arguments.{TacArgsValue}
use Rattle.hol_goal.specs.declared.tac_code.TacCode.{TacCode}
use Rattle.hol_just.specs.Tac.{Meaning}
use Rattle.hol_just.specs.Valid.{IsValid}
use Rattle.hol_just.specs.Answering.{are_assumed, suits, IsResult, IsJustified}
use Rattle.hol_just.specs.declared.tried.Step.{Step}
use Rattle.hol_just.specs.declared.tried.Tried.{Tried}
use Rattle.hol_just.specs.declared.tried.TacFault.TheVariants as fault
use Rattle.hol_just.proofs.Assumed.{nothing_left}
use Rattle.hol_combine.specs.Runs.{KnownValue, Refuses, DoesNotFit, Stops, TurnLimit, LargeGoal, answer_of, small, run_meaning, meaning_at}
use Rattle.hol_combine.specs.RunView.{IsValidRun}
use Rattle.hol_combine.specs.Going.{LeavesAtMost}
use Rattle.hol_combine.specs.Called.{IsAnsweredBy, IsCalled}
use Rattle.hol_combine.specs.declared.ran.Ran.{Ran}
use Rattle.hol_combine.specs.declared.ran.RunError.{RunError}
use Rattle.hol_combine.specs.declared.ran.RunError.TheVariants as error
use Rattle.hol_combine.proofs.Turns.{MeaningFalls}

-- the answer of the meaning at the index
pub by_meaning : (known : KnownValue) (index : ℕ) (args : TacArgsValue) (goal : GoalValue) (turns : ℕ) (result : Result Tried _) → index < length known.table → IsCalled known index args goal turns result → IsAnsweredBy (meaning_at known.names known.table index) args goal turns result
by_meaning known index args goal turns result h a = in_rows known.table index h a
  where
    in_rows : (rows : List (List ℕ × TacCode)) (i : ℕ) → i < length rows → IsCalled (record { table = rows; names = known.names }) i args goal turns result → IsAnsweredBy (meaning_at known.names rows i) args goal turns result
    in_rows [] i h a = absurd (omega (arith, h))
    in_rows (row ∷ rows) zero h a = a
    in_rows (row ∷ rows) (suc i) h a = in_rows rows i (omega (arith, h)) a

-- beyond the table there is none
pub meaning_beyond : (names : List (List ℕ)) (rows : List (List ℕ × TacCode)) (index : ℕ) → length rows ≤ index → meaning_at names rows index ≡ None
meaning_beyond names [] index h = refl
meaning_beyond names (row ∷ rows) zero h = absurd (omega (arith, h))
meaning_beyond names (row ∷ rows) (suc index) h = meaning_beyond names rows index (omega (arith, h))

-- what may still be used, of an answer
abbrev pub used_after : UsedValue → ℕ → List (List ℕ) → UsedValue
used_after used left tested = record { turns_left = left; tested = used.tested ++ tested }

-- goals are left
result_left : (name : List ℕ) (answer : AnswerResult) (before used : UsedValue) (tried : Tried) → IsResult answer used (Ok tried) →
    answer_of name answer (used_after before used.turns_left used.tested) ≡ small tried.step.goals.items (used_after before tried.left tried.tested.items)
result_left name (Left goals) before used tried a = λ i. small (sym a.0 i) (used_after before (sym a.1.0 i) (sym a.1.1 i))
result_left name Unfit before used tried a = absurd a
result_left name OutOfTurns before used tried a = absurd a
result_left name TooLarge before used tried a = absurd a

pub answered_left : (meaning : Option Meaning) (name : List ℕ) (args : TacArgsValue) (goal : GoalValue) (used : UsedValue) (tried : Tried) → IsAnsweredBy meaning args goal used.turns_left (Ok tried) →
    run_meaning meaning name args goal used ≡ small tried.step.goals.items (used_after used tried.left tried.tested.items)
answered_left None name args goal used tried a = absurd a
answered_left (Some f) name args goal used tried a =
    let answer : AnswerValue = f args goal (starting used.turns_left) in
    result_left name answer.result used answer.used tried a

-- it doesn't fit
result_unfit : (name : List ℕ) (answer : AnswerResult) (before used : UsedValue) (left : ℕ) (tested : _) → IsResult answer used (Err (fault.Refused left tested)) →
    answer_of name answer (used_after before used.turns_left used.tested) ≡ Refuses (DoesNotFit name) (used_after before left tested.items)
result_unfit name (Left goals) before used left tested a = absurd a
result_unfit name Unfit before used left tested a = λ i. Refuses (DoesNotFit name) (used_after before (sym a.0 i) (sym a.1 i))
result_unfit name OutOfTurns before used left tested a = absurd a
result_unfit name TooLarge before used left tested a = absurd a

pub answered_unfit : (meaning : Option Meaning) (name : List ℕ) (args : TacArgsValue) (goal : GoalValue) (used : UsedValue) (left : ℕ) (tested : _) → IsAnsweredBy meaning args goal used.turns_left (Err (fault.Refused left tested)) →
    run_meaning meaning name args goal used ≡ Refuses (DoesNotFit name) (used_after used left tested.items)
answered_unfit None name args goal used left tested a = absurd a
answered_unfit (Some f) name args goal used left tested a =
    let answer : AnswerValue = f args goal (starting used.turns_left) in
    result_unfit name answer.result used answer.used left tested a

-- turns run out
result_stops : (name : List ℕ) (answer : AnswerResult) (before used : UsedValue) (tested : _) → IsResult answer used (Err (fault.TurnLimit tested)) →
    answer_of name answer (used_after before used.turns_left used.tested) ≡ Stops TurnLimit (before.tested ++ tested.items)
result_stops name (Left goals) before used tested a = absurd a
result_stops name Unfit before used tested a = absurd a
result_stops name OutOfTurns before used tested a = ap (λ (t : List (List ℕ)). Stops TurnLimit (before.tested ++ t)) (sym a.1)
result_stops name TooLarge before used tested a = absurd a

pub answered_stops : (meaning : Option Meaning) (name : List ℕ) (args : TacArgsValue) (goal : GoalValue) (used : UsedValue) (tested : _) → IsAnsweredBy meaning args goal used.turns_left (Err (fault.TurnLimit tested)) →
    run_meaning meaning name args goal used ≡ Stops TurnLimit (used.tested ++ tested.items)
answered_stops None name args goal used tested a = absurd a
answered_stops (Some f) name args goal used tested a =
    let answer : AnswerValue = f args goal (starting used.turns_left) in
    result_stops name answer.result used answer.used tested a

-- a term is too large
result_large : (name : List ℕ) (answer : AnswerResult) (before used : UsedValue) (tested : _) → IsResult answer used (Err (fault.TooLarge tested)) →
    answer_of name answer (used_after before used.turns_left used.tested) ≡ Stops LargeGoal (before.tested ++ tested.items)
result_large name (Left goals) before used tested a = absurd a
result_large name Unfit before used tested a = absurd a
result_large name OutOfTurns before used tested a = absurd a
result_large name TooLarge before used tested a = ap (λ (t : List (List ℕ)). Stops LargeGoal (before.tested ++ t)) (sym a)

pub answered_large : (meaning : Option Meaning) (name : List ℕ) (args : TacArgsValue) (goal : GoalValue) (used : UsedValue) (tested : _) → IsAnsweredBy meaning args goal used.turns_left (Err (fault.TooLarge tested)) →
    run_meaning meaning name args goal used ≡ Stops LargeGoal (used.tested ++ tested.items)
answered_large None name args goal used tested a = absurd a
answered_large (Some f) name args goal used tested a =
    let answer : AnswerValue = f args goal (starting used.turns_left) in
    result_large name answer.result used answer.used tested a

-- no more turns are left
tried_falls : (answer : AnswerResult) (used : UsedValue) (tried : Tried) (turns : ℕ) → used.turns_left ≤ turns → IsResult answer used (Ok tried) → tried.left ≤ turns
tried_falls (Left goals) used tried turns h a = let same = a.1.0 in omega (arith, h, same)
tried_falls Unfit used tried turns h a = absurd a
tried_falls OutOfTurns used tried turns h a = absurd a
tried_falls TooLarge used tried turns h a = absurd a

pub left_falls : (meaning : Option Meaning) (args : TacArgsValue) (goal : GoalValue) (turns : ℕ) (tried : Tried) → MeaningFalls meaning → IsAnsweredBy meaning args goal turns (Ok tried) → tried.left ≤ turns
left_falls None args goal turns tried h a = absurd a
left_falls (Some f) args goal turns tried h a =
    let answer : AnswerValue = f args goal (starting turns) in
    tried_falls answer.result answer.used tried turns (h args goal turns) a

unfit_falls : (answer : AnswerResult) (used : UsedValue) (left turns : ℕ) (tested : _) → used.turns_left ≤ turns → IsResult answer used (Err (fault.Refused left tested)) → left ≤ turns
unfit_falls (Left goals) used left turns tested h a = absurd a
unfit_falls Unfit used left turns tested h a = let same = a.0 in omega (arith, h, same)
unfit_falls OutOfTurns used left turns tested h a = absurd a
unfit_falls TooLarge used left turns tested h a = absurd a

pub refused_falls : (meaning : Option Meaning) (args : TacArgsValue) (goal : GoalValue) (turns left : ℕ) (tested : _) → MeaningFalls meaning → IsAnsweredBy meaning args goal turns (Err (fault.Refused left tested)) → left ≤ turns
refused_falls None args goal turns left tested h a = absurd a
refused_falls (Some f) args goal turns left tested h a =
    let answer : AnswerValue = f args goal (starting turns) in
    unfit_falls answer.result answer.used left turns tested (h args goal turns) a

pub at_most_more : (m n : ℕ) (result : Result Ran RunError) → m ≤ n → LeavesAtMost m result → LeavesAtMost n result
at_most_more m n (Ok ran) h l = omega (arith, h, l)
at_most_more m n (Err (error.Refused why left tested)) h l = omega (arith, h, l)
at_most_more m n (Err (error.TurnLimit tested)) h l = tt
at_most_more m n (Err (error.LargeGoal tested)) h l = tt
at_most_more m n (Err error.Memory) h l = tt

-- ---- validity

-- where the theorems' hypotheses are assumptions none is left over
justified : (args : TacArgsValue) (goal : GoalValue) (step : Step) → are_assumed args goal ≡ true → IsJustified args goal step → IsValid (suits args) no_hyps step.just (goal ∷ []) step.goals.items
justified args goal step h j = j no_hyps (nothing_left args goal (are_assumed args goal) refl h)

pub small_justified : (args : TacArgsValue) (goal : GoalValue) (step : Step) (result : Result Ran RunError) → IsJustified args goal step → IfOk result (λ ran. ran.step ≡ step) → IfOk result (λ ran. IsJustified args goal ran.step)
small_justified args goal step (Ok ran) j e = subst (IsJustified args goal) (sym e) j
small_justified args goal step (Err fault) j e = tt

pub justified_valid : (args : TacArgsValue) (goal : GoalValue) (result : Result Ran RunError) → are_assumed args goal ≡ true → IfOk result (λ ran. IsJustified args goal ran.step) → IfOk result (IsValidRun (suits args) (goal ∷ []))
justified_valid args goal (Ok ran) h j = justified args goal ran.step h j
justified_valid args goal (Err fault) h j = tt
