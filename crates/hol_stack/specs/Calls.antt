-- What the calls on a stack ask and answer. A call that fails leaves the stack as it was.
-- Source: HOL Light's tactics.ml (set_goal, e, b, r).
use Rattle.std.specs.Prelude.{◌≡◌, ◌≢◌, ℕ, List, [], ◌∷◌, Some, None, Result, Ok, Err}
use Rattle.std.specs.FinSet as set
use Rattle.hol_kernel.specs.Items.{Items}
use Rattle.hol_kernel.specs.Sequent.{no_hyps}
use Rattle.hol_kernel.specs.Theorem.{Theorem, theorem_over}
use Rattle.hol_goal.specs.Goal.{GoalValue}
use Rattle.hol_just.specs.Valid.{IsValid}
use Rattle.hol_just.specs.declared.reason.Move.{Move}
use Rattle.hol_stack.specs.StackValue.{StackValue, undone, rotated}
use Rattle.hol_stack.specs.declared.error.StackError.{StackError}
use Rattle.hol_stack.specs.declared.error.StackError.TheVariants.{NothingToUndo, NoGoal, GoalsRemain, Memory}

-- A goal is open, and the moves are valid from the first one to the goals left, over each basis that contains this one.
abbrev pub IsStep : Items → List Move → List GoalValue → List GoalValue → Type 0
IsStep basis moves left [] = ⊥
IsStep basis moves left (goal ∷ goals) = IsValid (set.is_subset basis) no_hyps moves (goal ∷ []) left

-- b is refused where there is one element only.
abbrev pub Undoes : StackValue → StackValue → Result (Unit {0}) StackError → Type 0
Undoes old new (Ok done) = undone old ≡ Some new
Undoes old new (Err NothingToUndo) = (undone old ≡ None) × (new ≡ old)
Undoes old new (Err NoGoal) = ⊥
Undoes old new (Err GoalsRemain) = ⊥
Undoes old new (Err Memory) = ⊥

-- r is refused where no goal is open.
abbrev pub Rotates : ℕ → StackValue → StackValue → Result (Unit {0}) StackError → Type 0
Rotates n old new (Ok done) = (old.newest.goals ≢ []) × (new ≡ rotated n old)
Rotates n old new (Err NothingToUndo) = ⊥
Rotates n old new (Err NoGoal) = (old.newest.goals ≡ []) × (new ≡ old)
Rotates n old new (Err GoalsRemain) = ⊥
Rotates n old new (Err Memory) = new ≡ old

-- top_thm: the theorem of the goal that the stack was set to, without hypotheses, on the newest element's basis; refused where a goal is open
abbrev pub Finishes : StackValue → Result Theorem StackError → Type 0
Finishes s (Ok th) = (s.newest.goals ≡ []) × (th ≡ theorem_over s.newest.basis no_hyps s.goal.conclusion)
Finishes s (Err NothingToUndo) = ⊥
Finishes s (Err NoGoal) = ⊥
Finishes s (Err GoalsRemain) = s.newest.goals ≢ []
Finishes s (Err Memory) = Unit {0}
