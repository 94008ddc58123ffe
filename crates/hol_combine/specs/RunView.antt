-- When what a run answers is right: it is what the expression means, and the step is justified. Want of memory may come in its place.
use Rattle.std.specs.Prelude.{◌≡◌, ◌≤◌, ℕ, Bool, IsTrue, List, [], ◌∷◌, ◌++◌, Result, Ok, Err, string_bytes}
use Rattle.hol_kernel.specs.Items.{Items}
use Rattle.hol_kernel.specs.Sequent.{no_hyps}
use Rattle.hol_goal.specs.Goal.{GoalValue}
use Rattle.hol_goal.specs.Answer.{UsedValue}
use Rattle.hol_just.specs.Valid.{IsValid}
use Rattle.hol_just.specs.declared.reason.Move.{Move}
use Rattle.hol_combine.specs.Runs.{RefusalValue, DoesNotFit, LacksHyps, TurnLimit, LargeGoal, RunValue, Leaves, Refuses, Stops}
use Rattle.hol_combine.specs.declared.ran.Ran.{Ran}
use Rattle.hol_combine.specs.declared.ran.Refusal.{Refusal}
use Rattle.hol_combine.specs.declared.ran.Refusal.TheVariants as refusal
use Rattle.hol_combine.specs.declared.ran.RunError.{RunError}
use Rattle.hol_combine.specs.declared.ran.RunError.TheVariants as error

abbrev pub refusal_value : Refusal → RefusalValue
refusal_value (refusal.DoesNotFit name) = DoesNotFit (string_bytes name)
refusal_value (refusal.LacksHyps name) = LacksHyps (string_bytes name)

-- what the code's turns and tested names stand for
abbrev pub using : ℕ → List (List ℕ) → UsedValue
using left tested = record { turns_left = left; tested = tested }

abbrev pub used_by : Ran → UsedValue
used_by ran = using ran.left ran.tested.items

abbrev pub IsError : RunValue → RunError → Type 0
IsError run (error.Refused why left tested) = run ≡ Refuses (refusal_value why) (using left tested.items)
IsError run (error.TurnLimit tested) = run ≡ Stops TurnLimit tested.items
IsError run (error.LargeGoal tested) = run ≡ Stops LargeGoal tested.items
IsError run error.Memory = Unit {0}

abbrev pub IsRun : RunValue → Result Ran RunError → Type 0
IsRun run (Ok ran) = run ≡ Leaves ran.step.goals.items (used_by ran)
IsRun run (Err e) = IsError run e

-- the moves that led from the goals to those that are left are valid, over each basis that suits
abbrev pub IsValidRun : (Items → Bool) → List GoalValue → Ran → Type 0
IsValidRun suits goals ran = IsValid suits no_hyps ran.step.just goals ran.step.goals.items
