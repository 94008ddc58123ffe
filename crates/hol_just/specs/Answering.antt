-- When what a function on goals answers is right: it is what its code means, and the step is justified.
use Rattle.std.specs.Prelude.{◌≡◌, ℕ, Bool, true, ◌&&◌, List, [], ◌∷◌, Result, Ok, Err}
use Rattle.std.specs.List.{list_all}
use Rattle.std.specs.FinSet as set
use Rattle.hol_kernel.specs.Items.{Items}
use Rattle.hol_kernel.specs.Given.{given_sequent}
use Rattle.hol_kernel.specs.Sequent.{Hyps, no_hyps}
use Rattle.hol_goal.specs.Goal.{GoalValue}
use Rattle.hol_goal.specs.Answer.{UsedValue, starting, AnswerResult, Left, Unfit, OutOfTurns, TooLarge, AnswerValue}
use Rattle.hol_goal.specs.Achieves.{AreAllowed, assumed}
use Rattle.hol_goal.specs.Arguments.{TacArgsValue, Nothing, Term, Pair, Theorem, TermAndTheorem, Theorems}
use Rattle.hol_goal.specs.declared.tac_code.TacCode.{TacCode}
pub use Rattle.hol_match.specs.Givens.{all_hyps}
use Rattle.hol_just.specs.Valid.{IsValid}
use Rattle.hol_just.specs.Justifies.{holds_term, holds_given}
use Rattle.hol_just.specs.Tac.{tac}
use Rattle.hol_just.specs.declared.tried.Step.{Step}
use Rattle.hol_just.specs.declared.tried.Tried.{Tried}
use Rattle.hol_just.specs.declared.tried.TacFault.{TacFault}
use Rattle.hol_just.specs.declared.tried.TacFault.TheVariants as fault

-- ---- the answer

-- The answer is the one that is right. Want of memory may come in its place.
abbrev pub IsResult : AnswerResult → UsedValue → Result Tried TacFault → Type 0
IsResult (Left goals) used (Ok tried) = (tried.step.goals.items ≡ goals) × ((tried.left ≡ used.turns_left) × (tried.tested.items ≡ used.tested))
IsResult (Left goals) used (Err (fault.Refused left tested)) = ⊥
IsResult (Left goals) used (Err (fault.TurnLimit tested)) = ⊥
IsResult (Left goals) used (Err (fault.TooLarge tested)) = ⊥
IsResult (Left goals) used (Err fault.Memory) = Unit {0}
IsResult Unfit used (Ok tried) = ⊥
IsResult Unfit used (Err (fault.Refused left tested)) = (left ≡ used.turns_left) × (tested.items ≡ used.tested)
IsResult Unfit used (Err (fault.TurnLimit tested)) = ⊥
IsResult Unfit used (Err (fault.TooLarge tested)) = ⊥
IsResult Unfit used (Err fault.Memory) = Unit {0}
IsResult OutOfTurns used (Ok tried) = ⊥
IsResult OutOfTurns used (Err (fault.Refused left tested)) = ⊥
IsResult OutOfTurns used (Err (fault.TurnLimit tested)) = (used.turns_left ≡ 0) × (tested.items ≡ used.tested)
IsResult OutOfTurns used (Err (fault.TooLarge tested)) = ⊥
IsResult OutOfTurns used (Err fault.Memory) = Unit {0}
IsResult TooLarge used (Ok tried) = ⊥
IsResult TooLarge used (Err (fault.Refused left tested)) = ⊥
IsResult TooLarge used (Err (fault.TurnLimit tested)) = ⊥
IsResult TooLarge used (Err (fault.TooLarge tested)) = tested.items ≡ used.tested
IsResult TooLarge used (Err fault.Memory) = Unit {0}

abbrev pub IsAnswered : AnswerValue → Result Tried TacFault → Type 0
IsAnswered answer result = IsResult answer.result answer.used result

-- the same by the code, where constants have these names
abbrev pub AnswersCode : TacCode → TacArgsValue → GoalValue → List (List ℕ) → ℕ → Result Tried TacFault → Type 0
AnswersCode code args goal names turns result = IsAnswered (tac names code args goal (starting turns)) result

-- ---- the justification

-- the hypotheses of the theorems among the arguments
abbrev pub args_hyps : TacArgsValue → Hyps
args_hyps Nothing = no_hyps
args_hyps (Term t) = no_hyps
args_hyps (Pair s t) = no_hyps
args_hyps (Theorem th) = (given_sequent th).hyps
args_hyps (TermAndTheorem t th) = (given_sequent th).hyps
args_hyps (Theorems ths) = all_hyps ths

-- Each hypothesis of each theorem among the arguments is an assumption of the goal, up to bound names.
-- Source: HOL Light's tactics.ml refuses a tactic whose theorem has other hypotheses; that it is a test of its own is this project's.
abbrev pub are_assumed : TacArgsValue → GoalValue → Bool
are_assumed args goal = set.is_subset (args_hyps args) (assumed goal.assumptions)

-- the basis suits the arguments: their terms are well typed over it, and it contains the theorems' bases
abbrev pub suits : TacArgsValue → Items → Bool
suits Nothing basis = true
suits (Term t) basis = holds_term t basis
suits (Pair s t) basis = holds_term s basis && holds_term t basis
suits (Theorem th) basis = holds_given th basis
suits (TermAndTheorem t th) basis = holds_term t basis && holds_given th basis
suits (Theorems ths) basis = list_all (λ th. holds_given th basis) ths

-- The extra hypotheses are the arguments', and each of the arguments' is one of them or an assumption.
pub record AreLeft (extra : Hyps) (args : TacArgsValue) (goal : GoalValue) : Type 0 where
  pub among : set.is_subset extra (args_hyps args) ≡ true
  pub all : AreAllowed extra goal.assumptions (args_hyps args)

-- the step is valid from the goal to those that it leaves, where each hypothesis of the arguments is an assumption or left over
abbrev pub IsJustified : TacArgsValue → GoalValue → Step → Type 0
IsJustified args goal step = (extra : Hyps) → AreLeft extra args goal → IsValid (suits args) extra step.just (goal ∷ []) step.goals.items
