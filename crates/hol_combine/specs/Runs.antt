-- What a run of an expression on a goal comes to (HOL Light Reference Manual: the tacticals of these names; turns and sizes are this project's).
-- Each call, each round of REPEAT and REPLICATE_TAC and each use of a named expression pays a turn.
use Rattle.std.specs.Prelude.{ℕ, zero, suc, Bool, true, false, ◌&&◌, cond, codes, nat_eq, nat_lt, List, [], ◌∷◌, ◌++◌, length, Option, Some, None}
use Rattle.std.specs.List.{list_any}
use Rattle.hol_terms.specs.Nameless.{Nameless}
use Rattle.hol_terms.specs.Alpha.{alpha_eq}
use Rattle.hol_goal.specs.Goal.{GoalValue, goal_size}
use Rattle.hol_goal.specs.Answer.{UsedValue, starting, AnswerResult, AnswerValue, Left, Unfit, OutOfTurns, TooLarge}
use Rattle.hol_kernel.specs.Given.{assumed as assume}
use Rattle.hol_goal.specs.Arguments.{TacArgsValue, Theorem, TermAndTheorem}
use Rattle.hol_goal.specs.declared.tac_code.TacCode.{TacCode}
use Rattle.hol_just.specs.Tac.{Meaning, tac}
use Rattle.hol_just.specs.Answering.{are_assumed}
use Rattle.hol_just.specs.Leaving.{concluding}
use Rattle.hol_just.specs.Strip.{antecedent}
use Rattle.hol_combine.specs.ExprValue.{CallValue, TheoremTacValue, ExprValue, ExprValues, Call, Then, ThenL, OrElse, Try, Repeat, Every, First, Replicate, Changed, DischThen, PopAssum, FirstAssum, SubgoalThen, Defined, no_exprs, more_exprs}

-- why a run is refused: what has this name doesn't fit, or a hypothesis of a theorem given to it is no assumption
pub data RefusalValue : Type 0 where
  DoesNotFit : List ℕ → RefusalValue
  LacksHyps : List ℕ → RefusalValue

-- why a run is stopped, whatever stands around it: no turn is left to go on with, or a goal, or a term on the way to one, is too large
pub data StopValue : Type 0 where
  TurnLimit : StopValue
  LargeGoal : StopValue

-- what a run comes to: the goals that are left, or a refusal, each with what may still be used; or a stop, with the names that were tested
pub data RunValue : Type 0 where
  Leaves : List GoalValue → UsedValue → RunValue
  Refuses : RefusalValue → UsedValue → RunValue
  Stops : StopValue → List (List ℕ) → RunValue

-- what a run knows: the registered functions, and the names of constants
pub record KnownValue : Type 0 where
  pub table : List (List ℕ × TacCode)
  pub names : List (List ℕ)

-- ---- runs after runs

-- the goals before those that a run leaves
abbrev pub before_goals : List GoalValue → RunValue → RunValue
before_goals goals (Leaves more used) = Leaves (goals ++ more) used
before_goals goals (Refuses why used) = Refuses why used
before_goals goals (Stops why tested) = Stops why tested

-- what follows on the goals that are left
abbrev pub then_on : RunValue → (List GoalValue → UsedValue → RunValue) → RunValue
then_on (Leaves goals used) next = next goals used
then_on (Refuses why used) next = Refuses why used
then_on (Stops why tested) next = Stops why tested

-- what comes in the place of a refusal, whose turns stay spent, and whose tested names tested
abbrev pub otherwise : RunValue → (UsedValue → RunValue) → RunValue
otherwise (Leaves goals used) next = Leaves goals used
otherwise (Refuses why used) next = next used
otherwise (Stops why tested) next = Stops why tested

-- on each in order, with what the one before left to be used; the goals left are joined
abbrev pub each : {X : Type 0} → (X → UsedValue → RunValue) → List X → UsedValue → RunValue
each f [] used = Leaves [] used
each f (x ∷ xs) used = then_on (f x used) (λ goals left. before_goals goals (each f xs left))

-- the goal unchanged
abbrev pub unchanged : GoalValue → UsedValue → RunValue
unchanged goal used = Leaves (goal ∷ []) used

-- a turn is paid for what follows
abbrev pub paying_from : (UsedValue → RunValue) → List (List ℕ) → ℕ → RunValue
paying_from next tested zero = Stops TurnLimit tested
paying_from next tested (suc turns) = next (record { turns_left = turns; tested = tested })

abbrev pub paying : (UsedValue → RunValue) → UsedValue → RunValue
paying next used = paying_from next used.tested used.turns_left

-- ---- calls

-- a goal may have 20,000 nodes
abbrev pub has_large : List GoalValue → Bool
has_large goals = list_any (λ g. nat_lt 20000 (goal_size g)) goals

abbrev pub small : List GoalValue → UsedValue → RunValue
small goals used = cond (has_large goals) (Stops LargeGoal used.tested) (Leaves goals used)

abbrev pub answer_of : List ℕ → AnswerResult → UsedValue → RunValue
answer_of name (Left goals) used = small goals used
answer_of name Unfit used = Refuses (DoesNotFit name) used
answer_of name OutOfTurns used = Stops TurnLimit used.tested
answer_of name TooLarge used = Stops LargeGoal used.tested

-- a function on goals by its meaning: it starts without tested names, and its own come after those before
abbrev pub run_meaning : Option Meaning → List ℕ → TacArgsValue → GoalValue → UsedValue → RunValue
run_meaning None name args goal used = Refuses (DoesNotFit name) used
run_meaning (Some f) name args goal used =
    let answer : AnswerValue = f args goal (starting used.turns_left) in
    answer_of name answer.result (record { turns_left = answer.used.turns_left; tested = used.tested ++ answer.used.tested })

-- the code at an index of the table of registered functions, where constants have these names
abbrev pub meaning_at : List (List ℕ) → List (List ℕ × TacCode) → ℕ → Option Meaning
meaning_at names [] index = None
meaning_at names (row ∷ rows) zero = Some (tac names row.1)
meaning_at names (row ∷ rows) (suc index) = meaning_at names rows index

abbrev pub call_paid : KnownValue → CallValue → GoalValue → UsedValue → RunValue
call_paid known call goal used = run_meaning (meaning_at known.names known.table call.index) call.name call.args goal used

-- A call pays, tests the hypotheses of the theorems that are written, and calls.
abbrev pub run_call : KnownValue → CallValue → GoalValue → UsedValue → RunValue
run_call known call goal used = paying (λ left. cond (are_assumed call.args goal) (call_paid known call goal left) (Refuses (LacksHyps call.name) left)) used

-- ---- tacticals

-- whether just the same goal is left, up to bound names
abbrev pub are_same_terms : List Nameless → List Nameless → Bool
are_same_terms [] [] = true
are_same_terms [] (q ∷ qs) = false
are_same_terms (p ∷ ps) [] = false
are_same_terms (p ∷ ps) (q ∷ qs) = alpha_eq p q && are_same_terms ps qs

abbrev pub is_same_goal : GoalValue → GoalValue → Bool
is_same_goal g h = alpha_eq g.conclusion h.conclusion && are_same_terms g.assumptions h.assumptions

abbrev pub is_just : GoalValue → List GoalValue → Bool
is_just goal [] = false
is_just goal (g ∷ []) = is_same_goal goal g
is_just goal (g ∷ h ∷ goals) = false

-- CHANGED_TAC refuses where just the same goal is left.
abbrev pub changed : GoalValue → RunValue → RunValue
changed goal (Leaves goals used) = cond (is_just goal goals) (Refuses (DoesNotFit (codes "CHANGED_TAC")) used) (Leaves goals used)
changed goal (Refuses why used) = Refuses why used
changed goal (Stops why tested) = Stops why tested

-- ---- functions of a theorem

-- the call with the theorem `{p} |- p` as the last argument
abbrev pub handed_args : Option Nameless → Nameless → TacArgsValue
handed_args None p = Theorem (assume p)
handed_args (Some t) p = TermAndTheorem t (assume p)

abbrev pub handed : TheoremTacValue → Nameless → CallValue
handed called p = record { index = called.index; name = called.name; args = handed_args called.term p }

-- It pays and calls. The hypotheses of a theorem that a tactical hands over are not tested.
abbrev pub hand : KnownValue → TheoremTacValue → Nameless → GoalValue → UsedValue → RunValue
hand known called p goal used = paying (call_paid known (handed called p) goal) used

-- DISCH_THEN hands p of `p ==> q` over, on q, and p of `~p`, on F.
abbrev pub disch_then : KnownValue → TheoremTacValue → GoalValue → Option (Nameless × Nameless) → UsedValue → RunValue
disch_then known called goal None used = Refuses (DoesNotFit (codes "DISCH_THEN")) used
disch_then known called goal (Some (p, q)) used = hand known called p (concluding goal q) used

-- POP_ASSUM takes the newest assumption out, and hands it over.
abbrev pub pop_assum : KnownValue → TheoremTacValue → List Nameless → Nameless → UsedValue → RunValue
pop_assum known called [] w used = Refuses (DoesNotFit (codes "POP_ASSUM")) used
pop_assum known called (p ∷ ps) w used = hand known called p (record { assumptions = ps; conclusion = w }) used

-- FIRST_ASSUM hands over the first assumption, the newest first, with which the function isn't refused. The goal keeps all.
abbrev pub first_assum : KnownValue → TheoremTacValue → List Nameless → GoalValue → UsedValue → RunValue
first_assum known called [] goal used = Refuses (DoesNotFit (codes "FIRST_ASSUM")) used
first_assum known called (p ∷ ps) goal used = otherwise (hand known called p goal used) (first_assum known called ps goal)

-- SUBGOAL_THEN leaves p, which may not be too large, and then what comes of the goal with p handed over.
abbrev pub subgoal_then : KnownValue → Nameless → TheoremTacValue → GoalValue → UsedValue → RunValue
subgoal_then known p called goal used =
    let first : List GoalValue = concluding goal p ∷ [] in
    cond (has_large first) (Stops LargeGoal used.tested) (before_goals first (hand known called p goal used))

-- ---- rounds

-- REPEAT pays, and then does it and repeats on each goal that is left, or leaves the goal unchanged where that is refused: at most so many rounds.
abbrev pub repeat : (GoalValue → UsedValue → RunValue) → ℕ → GoalValue → UsedValue → RunValue
repeat f zero goal used = Stops TurnLimit used.tested
repeat f (suc most) goal used = paying (λ left. otherwise (then_on (f goal left) (each (repeat f most))) (unchanged goal)) used

-- each round pays, so that there are no more rounds than turns
abbrev pub repeated : (GoalValue → UsedValue → RunValue) → GoalValue → UsedValue → RunValue
repeated f goal used = repeat f used.turns_left goal used

-- REPLICATE_TAC does it so many times, and pays for each.
abbrev pub replicate : (GoalValue → UsedValue → RunValue) → ℕ → GoalValue → UsedValue → RunValue
replicate f zero goal used = unchanged goal used
replicate f (suc n) goal used = paying (λ left. then_on (f goal left) (each (replicate f n))) used

-- how many expressions there are
abbrev pub count : ExprValues → ℕ
count no_exprs = 0
count (more_exprs t ts) = suc (count ts)

-- as many expressions as goals
abbrev pub as_many : ℕ → List GoalValue → UsedValue → RunValue → RunValue
as_many n goals used all = cond (nat_eq n (length goals)) all (Refuses (DoesNotFit (codes "THENL")) used)

-- The run of an expression on a goal, by what is known, with what may still be used.
abbrev mutual
  pub run : KnownValue → ExprValue → GoalValue → UsedValue → RunValue
  run known (Call call) goal used = run_call known call goal used
  run known (Then t u) goal used = then_on (run known t goal used) (each (run known u))
  run known (ThenL t us) goal used = then_on (run known t goal used) (λ goals left. as_many (count us) goals left (run_each known us goals left))
  run known (OrElse t u) goal used = otherwise (run known t goal used) (run known u goal)
  run known (Try t) goal used = otherwise (run known t goal used) (unchanged goal)
  run known (Repeat t) goal used = repeated (run known t) goal used
  run known (Every ts) goal used = run_every known ts goal used
  run known (First ts) goal used = run_first known ts goal used
  run known (Replicate n t) goal used = replicate (run known t) n goal used
  run known (Changed t) goal used = changed goal (run known t goal used)
  run known (DischThen called) goal used = disch_then known called goal (antecedent goal.conclusion) used
  run known (PopAssum called) goal used = pop_assum known called goal.assumptions goal.conclusion used
  run known (FirstAssum called) goal used = first_assum known called goal.assumptions goal used
  run known (SubgoalThen p called) goal used = subgoal_then known p called goal used
  run known (Defined t) goal used = paying (run known t goal) used

  -- each after those before it
  pub run_every : KnownValue → ExprValues → GoalValue → UsedValue → RunValue
  run_every known no_exprs goal used = unchanged goal used
  run_every known (more_exprs t ts) goal used = then_on (run known t goal used) (each (run_every known ts))

  -- the first that isn't refused; the last one's refusal where all are
  pub run_first : KnownValue → ExprValues → GoalValue → UsedValue → RunValue
  run_first known no_exprs goal used = Refuses (DoesNotFit (codes "FIRST")) used
  run_first known (more_exprs t no_exprs) goal used = run known t goal used
  run_first known (more_exprs t (more_exprs u us)) goal used = otherwise (run known t goal used) (run_first known (more_exprs u us) goal)

  -- each on the goal of its place
  pub run_each : KnownValue → ExprValues → List GoalValue → UsedValue → RunValue
  run_each known no_exprs goals used = Leaves [] used
  run_each known (more_exprs t ts) [] used = Leaves [] used
  run_each known (more_exprs t ts) (g ∷ goals) used = then_on (run known t g used) (λ new left. before_goals new (run_each known ts goals left))
