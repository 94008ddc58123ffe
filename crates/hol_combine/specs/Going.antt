-- How a run goes on from what was done before. Only private clauses speak of it.
use Rattle.std.specs.Prelude.{◌≡◌, ◌≤◌, ℕ, zero, suc, List, [], ◌∷◌, ◌++◌, Result, Ok, Err}
use Rattle.hol_goal.specs.Goal.{GoalValue}
use Rattle.hol_goal.specs.Answer.{UsedValue}
use Rattle.hol_just.specs.Gives.{moved}
use Rattle.hol_just.specs.Justifies.{CutsBy}
use Rattle.hol_just.specs.declared.reason.Move.{Move}
use Rattle.hol_combine.specs.Runs.{DoesNotFit}
use Rattle.hol_combine.specs.RunView.{using, used_by, refusal_value}
use Rattle.hol_combine.specs.declared.ran.Ran.{Ran}
use Rattle.hol_combine.specs.declared.ran.RunError.{RunError}
use Rattle.hol_combine.specs.declared.ran.RunError.TheVariants as error

-- no more turns are left than there were
abbrev pub HasAtMost : ℕ → RunError → Type 0
HasAtMost turns (error.Refused why left tested) = left ≤ turns
HasAtMost turns (error.TurnLimit tested) = Unit {0}
HasAtMost turns (error.LargeGoal tested) = Unit {0}
HasAtMost turns error.Memory = Unit {0}

abbrev pub LeavesAtMost : ℕ → Result Ran RunError → Type 0
LeavesAtMost turns (Ok ran) = ran.left ≤ turns
LeavesAtMost turns (Err e) = HasAtMost turns e

-- a goal that was left as it is
pub record IsKept (goal : GoalValue) (left : UsedValue) (ran : Ran) : Type 0 where
  pub goals : ran.step.goals.items ≡ goal ∷ []
  pub just : ran.step.just ≡ []
  pub used : used_by ran ≡ left

-- the refusal of a tactical
abbrev pub IsRefusal : List ℕ → UsedValue → RunError → Type 0
IsRefusal name used (error.Refused why left tested) = (refusal_value why ≡ DoesNotFit name) × (using left tested.items ≡ used)
IsRefusal name used (error.TurnLimit tested) = ⊥
IsRefusal name used (error.LargeGoal tested) = ⊥
IsRefusal name used error.Memory = Unit {0}

-- moves that begin with a cut, and go on where what was cut in is assumed
abbrev pub FollowsCut : List Move → List Move → Type 0
FollowsCut more moves = (cutting : List Move) × CutsBy cutting × (moves ≡ cutting ++ moved 1 more)

-- a number so many times
abbrev pub copies : ℕ → ℕ → List ℕ
copies zero n = []
copies (suc times) n = n ∷ copies times n
