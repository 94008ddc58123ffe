-- Goal stacks (HOL Light's tactics.ml: set_goal, e, b, r), and the open proof's history.
use Rattle.std.specs.Prelude.{ℕ, zero, suc, List, [], ◌∷◌, ◌++◌, Option, Some, None, drop}
use Rattle.std.specs.FinSet as set
use Rattle.hol_kernel.specs.Items.{Items}
use Rattle.hol_goal.specs.Goal.{GoalValue}
use Rattle.hol_just.specs.declared.reason.Move.{Move}

-- an element of the history: the open goals, and the basis of all that was resolved so far
pub record StepValue : Type 0 where
  pub goals : List GoalValue
  pub basis : Items

-- a step that is kept: the goals that were left of a goal, and the moves by which they were
pub record SharedStepValue : Type 0 where
  pub goals : List GoalValue
  pub moves : List Move

-- the goal that it was set to, and its history: the newest element apart from the earlier ones, of which the newest comes first
pub record StackValue : Type 0 where
  pub goal : GoalValue
  pub newest : StepValue
  pub earlier : List StepValue

-- set_goal: the goal is the one open goal
abbrev pub begun : GoalValue → Items → StackValue
begun goal basis = record { goal = goal; newest = record { goals = goal ∷ []; basis = basis }; earlier = [] }

-- a new element of the history
abbrev pub followed : StepValue → StackValue → StackValue
followed next s = record { goal = s.goal; newest = next; earlier = s.newest ∷ s.earlier }

-- e: the goals in the place of the first, and the basis joined with this one
abbrev pub stepped : List GoalValue → Items → StackValue → StackValue
stepped goals basis s = followed (record { goals = goals ++ drop 1 s.newest.goals; basis = set.union s.newest.basis basis }) s

-- b: the element before the newest one, if there is one
abbrev pub without_newest : GoalValue → List StepValue → Option StackValue
without_newest goal [] = None
without_newest goal (step ∷ earlier) = Some (record { goal = goal; newest = step; earlier = earlier })

abbrev pub undone : StackValue → Option StackValue
undone s = without_newest s.goal s.earlier

-- r: the first goal put last, so many times
abbrev pub turned : ℕ → List GoalValue → List GoalValue
turned zero goals = goals
turned (suc n) [] = []
turned (suc n) (goal ∷ goals) = turned n (goals ++ goal ∷ [])

abbrev pub rotated : ℕ → StackValue → StackValue
rotated n s = followed (record { goals = turned n s.newest.goals; basis = s.newest.basis }) s
