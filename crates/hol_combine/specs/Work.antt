-- Goals that are gone through, with what was done to them so far. Only private clauses speak of it.
use Rattle.std.specs.Prelude.{◌≡◌, List, [], ◌∷◌, ◌++◌, length, reverse, Option, Some, None}
use Rattle.hol_goal.specs.Goal.{GoalValue}
use Rattle.hol_goal.specs.Answer.{UsedValue}
use Rattle.hol_goal.specs.UsedView.{used_value}
use Rattle.hol_goal.specs.declared.used.Used.{Used}
use Rattle.hol_just.specs.Gives.{moved}
use Rattle.hol_just.specs.declared.reason.Move.{Move}
use Rattle.hol_combine.specs.RunView.{used_by}
use Rattle.hol_combine.specs.declared.ran.Ran.{Ran}
use Rattle.hol_combine.specs.declared.work.Work.{Work}

pub record WorkValue : Type 0 where
  pub done : List GoalValue
  pub waiting : List GoalValue
  pub moves : List Move
  pub used : UsedValue

abbrev pub work_value : Work → WorkValue
work_value work = record { done = work.done.items; waiting = reverse work.waiting.items; moves = work.just; used = used_value work.used }

-- all goals that are left wait
abbrev pub started : Ran → WorkValue
started ran = record { done = []; waiting = ran.step.goals.items; moves = ran.step.just; used = used_by ran }

-- the first that waits was taken, with what may still be used, or none waits
abbrev pub with_next : GoalValue → UsedValue → WorkValue → WorkValue
with_next goal used w = record { done = w.done; waiting = goal ∷ w.waiting; moves = w.moves; used = used }

abbrev pub IsNext : WorkValue → WorkValue → Option (GoalValue × Used) → Type 0
IsNext old new None = (old.waiting ≡ []) × (new ≡ old)
IsNext old new (Some taken) = old ≡ with_next taken.0 (used_value taken.1) new

-- moves at the goal that was taken come after the others
abbrev pub followed : WorkValue → List Move → WorkValue
followed w moves = record w { moves = w.moves ++ moved (length w.done) moves }

-- what a run left of the goal that was taken is done
abbrev pub finished : WorkValue → List GoalValue → List Move → UsedValue → WorkValue
finished w goals moves used = record { done = w.done ++ goals; waiting = w.waiting; moves = w.moves ++ moved (length w.done) moves; used = used }

-- what a run left of it waits
abbrev pub again : WorkValue → List GoalValue → List Move → UsedValue → WorkValue
again w goals moves used = record { done = w.done; waiting = goals ++ w.waiting; moves = w.moves ++ moved (length w.done) moves; used = used }

-- it is done as it is
abbrev pub kept : WorkValue → GoalValue → UsedValue → WorkValue
kept w goal used = record { done = w.done ++ goal ∷ []; waiting = w.waiting; moves = w.moves; used = used }
