-- What is still to be done around the part of an expression that is run, the innermost first. Only private clauses speak of it.
-- Source: J. Reynolds, Definitional Interpreters for Higher-Order Programming Languages (ACM 1972): continuations as data.
use Rattle.std.specs.Prelude.{◌≤◌, ℕ, suc, List, [], ◌∷◌, reverse, Result, Ok, Err}
use Rattle.hol_goal.specs.Goal.{GoalValue}
use Rattle.hol_goal.specs.Answer.{UsedValue}
use Rattle.hol_goal.specs.UsedView.{used_value}
use Rattle.hol_just.specs.declared.reason.Move.{Move}
use Rattle.hol_combine.specs.ExprValue.{ExprValue, ExprValues, exprs}
use Rattle.hol_combine.specs.Runs.{KnownValue, RefusalValue, RunValue, Leaves, Refuses, Stops, before_goals, then_on, otherwise, each, unchanged, changed, repeated, replicate, run, run_every, run_first, run_each}
use Rattle.hol_combine.specs.More.{run_more, run_list}
use Rattle.hol_combine.specs.RunView.{used_by, refusal_value}
use Rattle.hol_combine.specs.Work.{WorkValue, work_value, finished, again, kept}
use Rattle.hol_combine.specs.declared.ran.Ran.{Ran}
use Rattle.hol_combine.specs.declared.ran.RunError.{RunError}
use Rattle.hol_combine.specs.declared.ran.RunError.TheVariants as error
use Rattle.hol_combine.specs.declared.pending.Pending.{Pending}
use Rattle.hol_combine.specs.declared.pending.Pending.TheVariants as pending
use Rattle.hol_combine.specs.declared.pending.Reached.{Reached}
use Rattle.hol_combine.specs.declared.pending.Reached.TheVariants as reached

-- ---- goals that are gone through

-- EVERY of the first expressions on each that waits, and then each of the others on all
abbrev pub through : KnownValue → List ExprValue → List ExprValue → WorkValue → RunValue
through known parts more w = then_on (before_goals w.done (each (run_every known (exprs parts)) w.waiting w.used)) (run_more known (exprs more))

-- each expression on the goal of its place
abbrev pub in_place : KnownValue → List ExprValue → WorkValue → RunValue
in_place known parts w = before_goals w.done (run_each known (exprs parts) w.waiting w.used)

-- REPEAT on each
abbrev pub by_rounds : (GoalValue → UsedValue → RunValue) → WorkValue → RunValue
by_rounds f w = before_goals w.done (each (repeated f) w.waiting w.used)

-- rounds of REPLICATE_TAC: each goal once and so many times more; where a number lacks nothing is done
abbrev pub counted : (GoalValue → UsedValue → RunValue) → List ℕ → List GoalValue → UsedValue → RunValue
counted f ns [] used = Leaves [] used
counted f [] (g ∷ goals) used = Leaves [] used
counted f (n ∷ ns) (g ∷ goals) used = then_on (replicate f (suc n) g used) (λ new l. before_goals new (counted f ns goals l))

abbrev pub by_counts : (GoalValue → UsedValue → RunValue) → List ℕ → WorkValue → RunValue
by_counts f ns w = before_goals w.done (counted f ns w.waiting w.used)

-- all goals wait
abbrev pub all_waiting : List GoalValue → UsedValue → WorkValue
all_waiting goals used = record { done = []; waiting = goals; moves = []; used = used }

-- ---- what becomes of what a part comes to

-- after a round of REPEAT
abbrev pub after_round : (GoalValue → UsedValue → RunValue) → GoalValue → WorkValue → RunValue → RunValue
after_round f goal w (Leaves new used) = by_rounds f (again w new [] used)
after_round f goal w (Refuses why used) = by_rounds f (kept w goal used)
after_round f goal w (Stops why tested) = Stops why tested

abbrev pub resumed : KnownValue → Pending → RunValue → RunValue
resumed known (pending.Then parts more) v = then_on v (λ goals left. through known parts.now more.now (all_waiting goals left))
resumed known (pending.Each parts more work) v = then_on v (λ new left. through known parts.now more.now (finished (work_value work) new [] left))
resumed known (pending.ThenL parts) v = then_on v (run_list known (exprs parts.now))
resumed known (pending.Places parts work) v = then_on v (λ new left. in_place known parts.now (finished (work_value work) new [] left))
resumed known (pending.OrElse goal next more) v = otherwise v (run_first known (exprs (next.now ∷ more.now)) goal)
resumed known (pending.Try goal) v = otherwise v (unchanged goal)
resumed known (pending.Changed goal) v = changed goal v
resumed known (pending.Repeat part goal work) v = after_round (run known part.now) goal (work_value work) v
resumed known (pending.Replicate part more rounds work) v =
    then_on (then_on v (each (replicate (run known part.now) more))) (λ new left. by_counts (run known part.now) (reverse rounds.items) (finished (work_value work) new [] left))

abbrev pub around : KnownValue → List Pending → RunValue → RunValue
around known [] v = v
around known (p ∷ outer) v = around known outer (resumed known p v)

-- ---- what a run has come to

-- an expression is to be run on a goal; one that was run left goals, by these moves, or was refused; or goals are gone through, by calls in these
-- expressions, in so many steps of the loop
pub data ReachedValue : Type 0 where
  Runs : ExprValue → GoalValue → UsedValue → ReachedValue
  Left : List GoalValue → List Move → UsedValue → ReachedValue
  Refused : RefusalValue → UsedValue → ReachedValue
  Goes : ExprValues → (WorkValue → RunValue) → (WorkValue → ℕ) → WorkValue → ReachedValue

abbrev pub reached_value : Reached → ReachedValue
reached_value (reached.Part expr goal used) = Runs expr.now goal (used_value used)
reached_value (reached.Left ran) = Left ran.step.goals.items ran.step.just (used_by ran)
reached_value (reached.Refused why used) = Refused (refusal_value why) (used_value used)

abbrev pub comes_to : KnownValue → ReachedValue → RunValue
comes_to known (Runs expr goal used) = run known expr goal used
comes_to known (Left goals moves used) = Leaves goals used
comes_to known (Refused why used) = Refuses why used
comes_to known (Goes parts rest steps w) = rest w

-- what a run that has ended has come to; a stop goes through
abbrev pub reached_by : Result Ran RunError → Result Reached RunError
reached_by (Ok ran) = Ok (reached.Left ran)
reached_by (Err (error.Refused why left tested)) = Ok (reached.Refused why (record { left = left; tested = tested }))
reached_by (Err (error.TurnLimit tested)) = Err (error.TurnLimit tested)
reached_by (Err (error.LargeGoal tested)) = Err (error.LargeGoal tested)
reached_by (Err error.Memory) = Err error.Memory

-- no more turns are left than there were
abbrev pub HasLeft : ℕ → Reached → Type 0
HasLeft turns (reached.Part expr goal used) = used.left ≤ turns
HasLeft turns (reached.Left ran) = ran.left ≤ turns
HasLeft turns (reached.Refused why used) = used.left ≤ turns
