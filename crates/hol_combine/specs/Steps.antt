-- How many steps of the loop a run takes at most, by cases as `run` is: each beginning, and each return to what is pending, is a step. Of chains that
-- are one node it counts more. Only private clauses speak of it.
-- Source: this project.
use Rattle.std.specs.Prelude.{ℕ, zero, suc, ◌+◌, List, [], ◌∷◌, ◌++◌, length, reverse}
use Rattle.hol_goal.specs.Goal.{GoalValue}
use Rattle.hol_goal.specs.Answer.{UsedValue}
use Rattle.hol_combine.specs.ExprValue.{ExprValue, ExprValues, Call, Then, ThenL, OrElse, Try, Repeat, Every, First, Replicate, Changed, DischThen, PopAssum, FirstAssum, SubgoalThen, Defined, no_exprs, more_exprs, exprs}
use Rattle.hol_combine.specs.Runs.{KnownValue, RunValue, Leaves, Refuses, Stops, before_goals, each, run, run_every}
use Rattle.hol_combine.specs.Going.{copies}
use Rattle.hol_combine.specs.Work.{WorkValue, work_value, finished}
use Rattle.hol_combine.specs.Pending.{ReachedValue, Runs, Left, Refused, Goes, all_waiting, resumed, comes_to}
use Rattle.hol_combine.specs.declared.pending.Pending.{Pending}
use Rattle.hol_combine.specs.declared.pending.Pending.TheVariants as pending

-- ---- steps after a run

abbrev pub steps_then : RunValue → (List GoalValue → UsedValue → ℕ) → ℕ
steps_then (Leaves goals used) next = next goals used
steps_then (Refuses why used) next = 0
steps_then (Stops why tested) next = 0

abbrev pub steps_otherwise : RunValue → (UsedValue → ℕ) → ℕ
steps_otherwise (Leaves goals used) next = 0
steps_otherwise (Refuses why used) next = next used
steps_otherwise (Stops why tested) next = 0

abbrev pub steps_either : RunValue → (List GoalValue → UsedValue → ℕ) → (UsedValue → ℕ) → ℕ
steps_either (Leaves goals used) next other = next goals used
steps_either (Refuses why used) next other = other used
steps_either (Stops why tested) next other = 0

-- where a turn is paid
abbrev pub steps_paid_from : (UsedValue → ℕ) → List (List ℕ) → ℕ → ℕ
steps_paid_from next tested zero = 0
steps_paid_from next tested (suc turns) = next (record { turns_left = turns; tested = tested })

abbrev pub steps_paid : (UsedValue → ℕ) → UsedValue → ℕ
steps_paid next used = steps_paid_from next used.tested used.turns_left

-- on each goal, and back to the goals that are gone through
abbrev pub steps_each : (GoalValue → UsedValue → RunValue) → (GoalValue → UsedValue → ℕ) → List GoalValue → UsedValue → ℕ
steps_each f steps [] used = 0
steps_each f steps (g ∷ goals) used = steps g used + 3 + steps_then (f g used) (λ new left. steps_each f steps goals left)

-- rounds of REPEAT on goals, for at most so many turns
abbrev pub steps_rounds : (GoalValue → UsedValue → RunValue) → (GoalValue → UsedValue → ℕ) → ℕ → List GoalValue → UsedValue → ℕ
steps_rounds f steps zero goals used = 0
steps_rounds f steps (suc most) [] used = 0
steps_rounds f steps (suc most) (g ∷ goals) used =
    steps_paid (λ left. steps g left + 2 + steps_either (f g left) (λ new l. steps_rounds f steps most (new ++ goals) l) (λ l. steps_rounds f steps most goals l)) used

-- after a round of REPLICATE_TAC: the rounds that goals have left, and the goals
abbrev pub rounds_after : ℕ → ℕ → List ℕ → List ℕ
rounds_after zero goals ns = ns
rounds_after (suc more) goals ns = copies goals more ++ ns

abbrev pub goals_after : ℕ → List GoalValue → List GoalValue → List GoalValue
goals_after zero new goals = goals
goals_after (suc more) new goals = new ++ goals

-- rounds of REPLICATE_TAC, for at most so many turns
abbrev pub steps_counted : (GoalValue → UsedValue → RunValue) → (GoalValue → UsedValue → ℕ) → ℕ → List ℕ → List GoalValue → UsedValue → ℕ
steps_counted f steps zero ns goals used = 0
steps_counted f steps (suc most) ns [] used = 0
steps_counted f steps (suc most) [] (g ∷ goals) used = 0
steps_counted f steps (suc most) (n ∷ ns) (g ∷ goals) used =
    steps_paid (λ left. steps g left + 2 + steps_then (f g left) (λ new l. steps_counted f steps most (rounds_after n (length new) ns) (goals_after n new goals) l)) used

abbrev pub steps_replicate : (GoalValue → UsedValue → RunValue) → (GoalValue → UsedValue → ℕ) → ℕ → GoalValue → UsedValue → ℕ
steps_replicate f steps zero goal used = 0
steps_replicate f steps (suc n) goal used = steps_counted f steps used.turns_left (n ∷ []) (goal ∷ []) used

-- ---- steps of an expression

abbrev mutual
  pub steps_of : KnownValue → ExprValue → GoalValue → UsedValue → ℕ
  steps_of known (Call call) goal used = 1
  steps_of known (Then t u) goal used = steps_of known t goal used + 3 + steps_then (run known t goal used) (steps_each (run_every known (more_exprs u no_exprs)) (steps_of known u))
  steps_of known (ThenL t us) goal used = steps_of known t goal used + 3 + steps_then (run known t goal used) (steps_in_place known us)
  steps_of known (OrElse t u) goal used = steps_of known t goal used + 3 + steps_otherwise (run known t goal used) (steps_of known u goal)
  steps_of known (Try t) goal used = steps_of known t goal used + 3
  steps_of known (Repeat t) goal used = steps_rounds (run known t) (steps_of known t) used.turns_left (goal ∷ []) used + 2
  steps_of known (Every ts) goal used = steps_every known ts goal used + 1
  steps_of known (First ts) goal used = steps_first known ts goal used + 1
  steps_of known (Replicate n t) goal used = steps_replicate (run known t) (steps_of known t) n goal used + 2
  steps_of known (Changed t) goal used = steps_of known t goal used + 3
  steps_of known (DischThen called) goal used = 1
  steps_of known (PopAssum called) goal used = 1
  steps_of known (FirstAssum called) goal used = 1
  steps_of known (SubgoalThen p called) goal used = 1
  steps_of known (Defined t) goal used = steps_paid (steps_of known t goal) used + 1

  pub steps_every : KnownValue → ExprValues → GoalValue → UsedValue → ℕ
  steps_every known no_exprs goal used = 0
  steps_every known (more_exprs t no_exprs) goal used = steps_of known t goal used
  steps_every known (more_exprs t (more_exprs u us)) goal used = steps_of known t goal used + 2 + steps_then (run known t goal used) (steps_each (run_every known (more_exprs u us)) (steps_every known (more_exprs u us)))

  pub steps_first : KnownValue → ExprValues → GoalValue → UsedValue → ℕ
  steps_first known no_exprs goal used = 0
  steps_first known (more_exprs t no_exprs) goal used = steps_of known t goal used
  steps_first known (more_exprs t (more_exprs u us)) goal used = steps_of known t goal used + 3 + steps_otherwise (run known t goal used) (steps_first known (more_exprs u us) goal)

  pub steps_in_place : KnownValue → ExprValues → List GoalValue → UsedValue → ℕ
  steps_in_place known no_exprs goals used = 0
  steps_in_place known (more_exprs t ts) [] used = 0
  steps_in_place known (more_exprs t ts) (g ∷ goals) used = steps_of known t g used + 2 + steps_then (run known t g used) (λ new left. steps_in_place known ts goals left)

-- ---- steps of goals that are gone through

-- each of the expressions of a chain, on all goals
abbrev pub steps_more : KnownValue → ExprValues → List GoalValue → UsedValue → ℕ
steps_more known no_exprs goals used = 0
steps_more known (more_exprs t ts) goals used =
    steps_each (run_every known (more_exprs t no_exprs)) (steps_of known t) goals used + 2 + steps_then (each (run_every known (more_exprs t no_exprs)) goals used) (steps_more known ts)

abbrev pub steps_through : KnownValue → List ExprValue → List ExprValue → WorkValue → ℕ
steps_through known parts more w =
    steps_each (run_every known (exprs parts)) (steps_every known (exprs parts)) w.waiting w.used
    + steps_then (before_goals w.done (each (run_every known (exprs parts)) w.waiting w.used)) (steps_more known (exprs more))

abbrev pub steps_by_places : KnownValue → List ExprValue → WorkValue → ℕ
steps_by_places known parts w = steps_in_place known (exprs parts) w.waiting w.used

abbrev pub steps_by_rounds : KnownValue → ExprValue → WorkValue → ℕ
steps_by_rounds known t w = steps_rounds (run known t) (steps_of known t) w.used.turns_left w.waiting w.used

abbrev pub steps_by_counts : KnownValue → ExprValue → List ℕ → WorkValue → ℕ
steps_by_counts known t ns w = steps_counted (run known t) (steps_of known t) w.used.turns_left ns w.waiting w.used

-- ---- steps of what is pending

-- where this is what a part comes to
abbrev pub steps_resumed : KnownValue → Pending → RunValue → ℕ
steps_resumed known (pending.Then parts more) v = 2 + steps_then v (λ goals left. steps_through known parts.now more.now (all_waiting goals left))
steps_resumed known (pending.Each parts more work) v = 2 + steps_then v (λ new left. steps_through known parts.now more.now (finished (work_value work) new [] left))
steps_resumed known (pending.ThenL parts) v = 2 + steps_then v (steps_in_place known (exprs parts.now))
steps_resumed known (pending.Places parts work) v = 2 + steps_then v (λ new left. steps_in_place known (exprs parts.now) (work_value work).waiting left)
steps_resumed known (pending.OrElse goal next more) v = 2 + steps_otherwise v (steps_first known (exprs (next.now ∷ more.now)) goal)
steps_resumed known (pending.Try goal) v = 2
steps_resumed known (pending.Changed goal) v = 2
steps_resumed known (pending.Repeat part goal work) v =
    2 + steps_either v (λ new left. steps_rounds (run known part.now) (steps_of known part.now) left.turns_left (new ++ (work_value work).waiting) left) (λ left. steps_rounds (run known part.now) (steps_of known part.now) left.turns_left (work_value work).waiting left)
steps_resumed known (pending.Replicate part more rounds work) v =
    2 + steps_then v (λ new left. steps_counted (run known part.now) (steps_of known part.now) left.turns_left (rounds_after more (length new) (reverse rounds.items)) (goals_after more new (work_value work).waiting) left)

abbrev pub steps_around : KnownValue → List Pending → RunValue → ℕ
steps_around known [] v = 0
steps_around known (p ∷ outer) v = steps_resumed known p v + steps_around known outer (resumed known p v)

abbrev pub steps_here : KnownValue → ReachedValue → ℕ
steps_here known (Runs expr goal used) = steps_of known expr goal used
steps_here known (Left goals moves used) = 0
steps_here known (Refused why used) = 0
steps_here known (Goes parts rest steps w) = steps w + 1

-- the measure of the loop
abbrev pub steps_left : KnownValue → List Pending → ReachedValue → ℕ
steps_left known outer here = steps_here known here + steps_around known outer (comes_to known here)
