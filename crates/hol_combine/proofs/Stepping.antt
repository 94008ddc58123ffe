-- Steps of the loop of a run: what begins a part, goes on, or comes back to what is pending keeps what the run comes to, in fewer steps.
use Rattle.std.specs.Prelude.{◌≡◌, ◌<◌, ◌≤◌, ◌+◌, ℕ, Bool, true, List, [], ◌∷◌, ◌++◌, reverse, Result, Ok, Err, IfOk, refl}
use Rattle.std.specs.Cmp.Derive.{both_true}
use Rattle.std.proofs.Common.{ap, sym, ◌∙◌, subst, arith}
use Rattle.std.proofs.lemmas.Bool.{and_parts}
use Rattle.std.proofs.lemmas.List.{reverse-append}
use Rattle.hol_kernel.specs.Items.{Items}
use Rattle.hol_kernel.specs.Sequent.{no_hyps}
use Rattle.hol_goal.specs.Goal.{GoalValue}
use Rattle.hol_goal.specs.Answer.{UsedValue}
use Rattle.hol_just.specs.Answering.{suits as suits_args}
use Rattle.hol_just.specs.declared.reason.Move.{Move}
use Rattle.hol_just.proofs.Validity.{valid_under}
use Rattle.hol_combine.specs.ExprValue.{CallValue, TheoremTacValue, ExprValue}
use Rattle.hol_combine.specs.ExprView.{expr_of_handing}
use Rattle.hol_combine.specs.Runs.{KnownValue, RunValue, Leaves, Refuses, RefusalValue, Stops, StopValue, TurnLimit, DoesNotFit, run}
use Rattle.hol_combine.specs.Suits.{all_calls_of, suits_expr}
use Rattle.hol_combine.specs.RunView.{refusal_value, used_by, using, IsError, IsRun, IsValidRun}
use Rattle.hol_combine.specs.Going.{HasAtMost, LeavesAtMost, IsRefusal}
use Rattle.hol_combine.specs.Pending.{ReachedValue, Runs, Left, Refused, resumed, around, reached_value, reached_by, comes_to, HasLeft}
use Rattle.hol_combine.specs.Steps.{steps_of, steps_resumed, steps_around, steps_here, steps_left}
use Rattle.hol_combine.specs.Advancing.{pending_parts, all_pending, all_reached, IsLed, FitsPending, IsGoing, IsStop, GoesTo, GoesFrom}
use Rattle.hol_combine.specs.declared.expr.Handing.{Handing}
use Rattle.hol_combine.specs.declared.expr.Handing.TheVariants as handing
use Rattle.hol_combine.specs.declared.ran.Ran.{Ran}
use Rattle.hol_combine.specs.declared.ran.RunError.{RunError}
use Rattle.hol_combine.specs.declared.ran.RunError.TheVariants as error
use Rattle.hol_combine.specs.declared.pending.Pending.{Pending}
use Rattle.hol_combine.specs.declared.pending.Pending.TheVariants as pending
use Rattle.hol_combine.specs.declared.pending.Reached.{Reached}
use Rattle.hol_combine.specs.declared.pending.Reached.TheVariants as reached

-- ---- stops go through what is pending

resumed_stops : (known : KnownValue) (p : Pending) (why : StopValue) (tested : List (List ℕ)) → resumed known p (Stops why tested) ≡ Stops why tested
resumed_stops known (pending.Then parts more) why tested = refl
resumed_stops known (pending.Each parts more work) why tested = refl
resumed_stops known (pending.ThenL parts) why tested = refl
resumed_stops known (pending.Places parts work) why tested = refl
resumed_stops known (pending.OrElse goal next more) why tested = refl
resumed_stops known (pending.Try goal) why tested = refl
resumed_stops known (pending.Changed goal) why tested = refl
resumed_stops known (pending.Repeat part goal work) why tested = refl
resumed_stops known (pending.Replicate part more rounds work) why tested = refl

pub around_stops : (known : KnownValue) (outer : List Pending) (why : StopValue) (tested : List (List ℕ)) → around known outer (Stops why tested) ≡ Stops why tested
around_stops known [] why tested = refl
around_stops known (p ∷ outer) why tested = ap (around known outer) (resumed_stops known p why tested) ∙ around_stops known outer why tested

stop_around : (known : KnownValue) (outer : List Pending) (x whole : RunValue) (e : RunError) → around known outer x ≡ whole → IsStop x e → IsStop whole e
stop_around known outer x whole (error.Refused why left tested) is h = absurd h
stop_around known outer x whole (error.TurnLimit tested) is h = sym is ∙ ap (around known outer) h ∙ around_stops known outer _ tested.items
stop_around known outer x whole (error.LargeGoal tested) is h = sym is ∙ ap (around known outer) h ∙ around_stops known outer _ tested.items
stop_around known outer x whole error.Memory is h = tt

stops_not : (tested : List (List ℕ)) (why : RefusalValue) (used : UsedValue) → Stops TurnLimit tested ≡ Refuses why used → ⊥
stops_not tested why used e = cc

-- no turn is left
pub paid_stop : (x : RunValue) (tested : List (List ℕ)) (e : RunError) → x ≡ Stops TurnLimit tested → IsError (Stops TurnLimit tested) e → IsStop x e
paid_stop x tested (error.Refused why left more) is h = absurd (stops_not tested (refusal_value why) (using left more.items) h)
paid_stop x tested (error.TurnLimit more) is h = is ∙ h
paid_stop x tested (error.LargeGoal more) is h = is ∙ h
paid_stop x tested error.Memory is h = tt

-- ---- numbers

fewer_in : (a b c h r : ℕ) → a + b < h → c ≡ r → a + (b + c) < h + r
fewer_in a b c h r less same = omega (arith, less, same)

fewer_here : (a c h r : ℕ) → a < h → c ≡ r → a + c < h + r
fewer_here a c h r less same = omega (arith, less, same)

fewer_back : (a b c h r : ℕ) → a < b → c ≡ r → a + c < h + (b + r)
fewer_back a b c h r less same = omega (arith, less, same)

less_than : (a m n : ℕ) → a < m → m < n → a < n
less_than a m n h k = omega (arith, h, k)

-- ---- steps

-- the basis suits all calls that what the run has come to may make
abbrev pub AllSuit : (Items → Bool) → ReachedValue → Type 0
AllSuit suits here = (basis : Items) → suits basis ≡ true → all_reached (λ call. suits_args call.args basis) here ≡ true

-- a part is begun, and more is pending
pub record Enters (known : KnownValue) (here : ReachedValue) (p : Pending) (next : ReachedValue) : Type 0 where
  pub answer : resumed known p (comes_to known next) ≡ comes_to known here
  pub steps : steps_here known next + steps_resumed known p (comes_to known next) < steps_here known here
  pub calls : (test : CallValue → Bool) → all_reached test here ≡ true → (all_reached test next ≡ true) × (all_calls_of test (pending_parts p) ≡ true)
  pub led : (suits : Items → Bool) (start : GoalValue) (outer : List Pending) → IsLed suits start outer here → IsLed suits start (p ∷ outer) next
  pub fits : FitsPending p

-- the same is pending
pub record Becomes (known : KnownValue) (here next : ReachedValue) : Type 0 where
  pub answer : comes_to known next ≡ comes_to known here
  pub steps : steps_here known next < steps_here known here
  pub calls : (test : CallValue → Bool) → all_reached test here ≡ true → all_reached test next ≡ true
  pub led : (suits : Items → Bool) (start : GoalValue) (outer : List Pending) → AllSuit suits here → IsLed suits start outer here → IsLed suits start outer next

-- a part has ended, and what was pending goes on
pub record Resumes (known : KnownValue) (p : Pending) (here next : ReachedValue) : Type 0 where
  pub answer : comes_to known next ≡ resumed known p (comes_to known here)
  pub steps : steps_here known next < steps_resumed known p (comes_to known here)
  pub calls : (test : CallValue → Bool) → all_calls_of test (pending_parts p) ≡ true → all_reached test next ≡ true
  pub led : (suits : Items → Bool) (start : GoalValue) (outer : List Pending) → IsLed suits start (p ∷ outer) here → IsLed suits start outer next

module _ (known : KnownValue) (here next : ReachedValue) (outer : List Pending) (suits : Items → Bool) (start : GoalValue) (whole : RunValue) where
  became : Becomes known here next → IsGoing known suits start whole outer here → IsGoing known suits start whole outer next
  became e g = record {
    answer = ap (around known outer) e.answer ∙ g.answer;
    suiting = λ basis s. let h = g.suiting basis s in (e.calls (λ call. suits_args call.args basis) h.0, h.1);
    led = e.led suits start outer (λ basis s. (g.suiting basis s).0) g.led;
    fits = g.fits;
  }

module _ (known : KnownValue) (here next : ReachedValue) (p : Pending) (outer : List Pending) (suits : Items → Bool) (start : GoalValue) (whole : RunValue) where
  entered : Enters known here p next → IsGoing known suits start whole outer here → IsGoing known suits start whole (p ∷ outer) next
  entered e g = record {
    answer = ap (around known outer) e.answer ∙ g.answer;
    suiting = λ basis s. let h = g.suiting basis s in let k = e.calls (λ call. suits_args call.args basis) h.0 in (k.0, both_true k.1 h.1);
    led = e.led suits start outer g.led;
    fits = (e.fits, g.fits);
  }

  went_back : Resumes known p here next → IsGoing known suits start whole (p ∷ outer) here → IsGoing known suits start whole outer next
  went_back e g = record {
    answer = ap (around known outer) e.answer ∙ g.answer;
    suiting = λ basis s. let h = g.suiting basis s in let k = and_parts (all_calls_of (λ call. suits_args call.args basis) (pending_parts p)) (all_pending (λ call. suits_args call.args basis) outer) h.1 in (e.calls (λ call. suits_args call.args basis) k.0, k.1);
    led = e.led suits start outer g.led;
    fits = g.fits.1;
  }

becomes_fewer : (known : KnownValue) (here next : ReachedValue) (outer : List Pending) → Becomes known here next → steps_left known outer next < steps_left known outer here
becomes_fewer known here next outer e = fewer_here (steps_here known next) (steps_around known outer (comes_to known next)) (steps_here known here) (steps_around known outer (comes_to known here)) e.steps (ap (steps_around known outer) e.answer)

module _ (known : KnownValue) (here next : ReachedValue) (p : Pending) (outer : List Pending) where
  enters_fewer : Enters known here p next → steps_left known (p ∷ outer) next < steps_left known outer here
  enters_fewer e =
      fewer_in (steps_here known next) (steps_resumed known p (comes_to known next)) (steps_around known outer (resumed known p (comes_to known next))) (steps_here known here) (steps_around known outer (comes_to known here))
      e.steps (ap (steps_around known outer) e.answer)

  resumes_fewer : Resumes known p here next → steps_left known outer next < steps_left known (p ∷ outer) here
  resumes_fewer e =
      fewer_back (steps_here known next) (steps_resumed known p (comes_to known here)) (steps_around known outer (comes_to known next)) (steps_here known here) (steps_around known outer (resumed known p (comes_to known here)))
      e.steps (ap (steps_around known outer) e.answer)

-- ---- how a run goes on by such a step, and by those after it

goes_more : (known : KnownValue) (suits : Items → Bool) (start : GoalValue) (whole : RunValue) (m n : ℕ) (after : List Pending) (result : Result Reached RunError) → m < n → GoesTo known suits start whole m after result → GoesTo known suits start whole n after result
goes_more known suits start whole m n after (Ok r) less h = (h.0, less_than (steps_left known after (reached_value r)) m n h.1 less)
goes_more known suits start whole m n after (Err e) less h = h

module _ (known : KnownValue) (here next : ReachedValue) (p : Pending) (outer after : List Pending) (result : Result Reached RunError) where
  pub enters_from : Enters known here p next → GoesFrom known (p ∷ outer) next after result → GoesFrom known outer here after result
  enters_from e go = λ suits start whole g. goes_more known suits start whole (steps_left known (p ∷ outer) next) (steps_left known outer here) after result (enters_fewer known here next p outer e) (go suits start whole (entered known here next p outer suits start whole e g))

  pub resumes_from : Resumes known p here next → GoesFrom known outer next after result → GoesFrom known (p ∷ outer) here after result
  resumes_from e go = λ suits start whole g. goes_more known suits start whole (steps_left known outer next) (steps_left known (p ∷ outer) here) after result (resumes_fewer known here next p outer e) (go suits start whole (went_back known here next p outer suits start whole e g))

-- it goes on to this
abbrev pub GoesOnTo : KnownValue → List Pending → ReachedValue → List Pending → ReachedValue → Type 0
GoesOnTo known before here after next = (suits : Items → Bool) (start : GoalValue) (whole : RunValue) → IsGoing known suits start whole before here → IsGoing known suits start whole after next × (steps_left known after next < steps_left known before here)

module _ (known : KnownValue) (here : ReachedValue) (p : Pending) (outer : List Pending) (next : ReachedValue) where
  pub enters_ok : Enters known here p next → GoesOnTo known outer here (p ∷ outer) next
  enters_ok e = λ suits start whole g. (entered known here next p outer suits start whole e g, enters_fewer known here next p outer e)

  pub resumes_ok : Resumes known p here next → GoesOnTo known (p ∷ outer) here outer next
  resumes_ok e = λ suits start whole g. (went_back known here next p outer suits start whole e g, resumes_fewer known here next p outer e)

pub becomes_from : (known : KnownValue) (here next : ReachedValue) (outer after : List Pending) (result : Result Reached RunError) → Becomes known here next → GoesFrom known outer next after result → GoesFrom known outer here after result
becomes_from known here next outer after result e go = λ suits start whole g. goes_more known suits start whole (steps_left known outer next) (steps_left known outer here) after result (becomes_fewer known here next outer e) (go suits start whole (became known here next outer suits start whole e g))

pub becomes_ok : (known : KnownValue) (here : ReachedValue) (outer : List Pending) (next : ReachedValue) → Becomes known here next → GoesOnTo known outer here outer next
becomes_ok known here outer next e = λ suits start whole g. (became known here next outer suits start whole e g, becomes_fewer known here next outer e)

pub stops : (known : KnownValue) (here : ReachedValue) (outer after : List Pending) (e : RunError) → IsStop (comes_to known here) e → GoesFrom known outer here after (Err e)
stops known here outer after e h = λ suits start whole g. stop_around known outer (comes_to known here) whole e g.answer h

-- by a `?`
pub stops_by : (known : KnownValue) (here : ReachedValue) (outer after : List Pending) (result : Result Reached RunError) (e x : RunError) → result ≡ Err e → e ≡ x → IsStop (comes_to known here) x → GoesFrom known outer here after result
stops_by known here outer after result e x is same h = subst (λ (r : Result Reached RunError). GoesFrom known outer here after r) (sym is) (stops known here outer after e (subst (IsStop (comes_to known here)) (sym same) h))

-- of an equal expression
pub as_expr : (known : KnownValue) (outer after : List Pending) (result : Result Reached RunError) (goal : GoalValue) (used : UsedValue) (e expr : ExprValue) → e ≡ expr → GoesFrom known outer (Runs e goal used) after result → GoesFrom known outer (Runs expr goal used) after result
as_expr known outer after result goal used e expr is go = subst (λ (x : ExprValue). GoesFrom known outer (Runs x goal used) after result) is go

pub as_expr_ok : (known : KnownValue) (outer after : List Pending) (next : ReachedValue) (goal : GoalValue) (used : UsedValue) (e expr : ExprValue) → e ≡ expr → GoesOnTo known outer (Runs e goal used) after next → GoesOnTo known outer (Runs expr goal used) after next
as_expr_ok known outer after next goal used e expr is go = subst (λ (x : ExprValue). GoesOnTo known outer (Runs x goal used) after next) is go

-- and of an equal goal
pub goal_as : (known : KnownValue) (outer after : List Pending) (result : Result Reached RunError) (taken goal : GoalValue) (used : UsedValue) (e expr : ExprValue) → e ≡ expr → GoesFrom known outer (Runs e taken used) after result → taken ≡ goal → GoesFrom known outer (Runs expr goal used) after result
goal_as known outer after result taken goal used e expr is go same = as_expr known outer after result goal used e expr is (subst (λ (x : GoalValue). GoesFrom known outer (Runs e x used) after result) same go)

pub memory_goes : (known : KnownValue) (here : ReachedValue) (outer after : List Pending) (e : RunError) → e ≡ error.Memory → GoesFrom known outer here after (Err e)
memory_goes known here outer after e is = λ suits start whole g. subst (IsStop whole) (sym is) tt

-- ---- what is pushed

pushed : (old new : List Pending) (p : Pending) → new ≡ old ++ p ∷ [] → reverse new ≡ p ∷ reverse old
pushed old new p is = ap (λ (l : List Pending). reverse l) is ∙ reverse-append old (p ∷ [])

module _ (known : KnownValue) (here : ReachedValue) (p : Pending) (old new : List Pending) (is : new ≡ old ++ p ∷ []) where
  pub pushes : (next : ReachedValue) → Enters known here p next → GoesOnTo known (reverse old) here (reverse new) next
  pushes next e = subst (λ (o : List Pending). GoesOnTo known (reverse old) here o next) (sym (pushed old new p is)) (enters_ok known here p (reverse old) next e)

  pub pushes_from : (next : ReachedValue) (after : List Pending) (result : Result Reached RunError) → Enters known here p next → GoesFrom known (reverse new) next after result → GoesFrom known (reverse old) here after result
  pushes_from next after result e go = enters_from known here next p (reverse old) after result e (subst (λ (o : List Pending). GoesFrom known o next after result) (pushed old new p is) go)

-- ---- a run of a part that has ended

module _ (known : KnownValue) (expr : ExprValue) (goal : GoalValue) (used : UsedValue) (outer : List Pending) (some : 0 < steps_of known expr goal used) where
  pub ended_goes : (result : Result Ran RunError) → IsRun (run known expr goal used) result → IfOk result (IsValidRun (suits_expr expr) (goal ∷ [])) → GoesFrom known outer (Runs expr goal used) outer (reached_by result)
  ended_goes (Ok ran) is valid =
      becomes_ok known (Runs expr goal used) outer (Left ran.step.goals.items ran.step.just (used_by ran))
      (record {
        answer = sym is;
        steps = some;
        calls = λ test h. refl;
        led = λ suits start around all led. (goal, valid_under (suits_expr expr) suits no_hyps ran.step.just (goal ∷ []) ran.step.goals.items all valid, led);
      })
  ended_goes (Err (error.Refused why left tested)) is valid =
      becomes_ok known (Runs expr goal used) outer (Refused (refusal_value why) (using left tested.items))
      (record { answer = sym is; steps = some; calls = λ test h. refl; led = λ suits start around all led. (goal, led) })
  ended_goes (Err (error.TurnLimit tested)) is valid = stops known (Runs expr goal used) outer outer (error.TurnLimit tested) is
  ended_goes (Err (error.LargeGoal tested)) is valid = stops known (Runs expr goal used) outer outer (error.LargeGoal tested) is
  ended_goes (Err error.Memory) is valid = stops known (Runs expr goal used) outer outer error.Memory tt

-- of an equal expression, on an equal goal
pub ended_as : (known : KnownValue) (e expr : ExprValue) (taken goal : GoalValue) (used : UsedValue) (outer : List Pending) (run_of : Result Ran RunError) (result : Result Reached RunError) → e ≡ expr → 0 < steps_of known e taken used → result ≡ reached_by run_of →
    IsRun (run known e taken used) run_of → IfOk run_of (IsValidRun (suits_expr e) (taken ∷ [])) → taken ≡ goal → GoesFrom known outer (Runs expr goal used) outer result
ended_as known e expr taken goal used outer run_of result is some by answer valid same =
    goal_as known outer outer result taken goal used e expr is
    (subst (λ (r : Result Reached RunError). GoesFrom known outer (Runs e taken used) outer r) (sym by) (ended_goes known e taken used outer some run_of answer valid)) same

-- a tactical is refused, where a part had left goals
module _ (known : KnownValue) (p : Pending) (goals : List GoalValue) (moves : List Move) (used : UsedValue) (name : List ℕ) (outer : List Pending) where
  pub refusal_goes : (e : RunError) → 0 < steps_resumed known p (Leaves goals used) → resumed known p (Leaves goals used) ≡ Refuses (DoesNotFit name) used → IsRefusal name used e → GoesFrom known (p ∷ outer) (Left goals moves used) outer (reached_by (Err e))
  refusal_goes (error.Refused why left tested) some is r =
      resumes_ok known (Left goals moves used) p outer (Refused (refusal_value why) (using left tested.items))
      (record {
        answer = (λ i. Refuses (r.0 i) (r.1 i)) ∙ sym is;
        steps = some;
        calls = λ test h. refl;
        led = λ suits start around l. (l.2.0, l.2.2);
      })
  refusal_goes (error.TurnLimit tested) some is r = absurd r
  refusal_goes (error.LargeGoal tested) some is r = absurd r
  refusal_goes error.Memory some is r = memory_goes known (Left goals moves used) (p ∷ outer) outer error.Memory refl

-- ---- the loop

module _ (known : KnownValue) (suits : Items → Bool) (start : GoalValue) (whole : RunValue) where
  pub pops : (here : ReachedValue) (old new : List Pending) (p : Pending) (after : List Pending) (result : Result Reached RunError) → old ≡ new ++ p ∷ [] → GoesFrom known (p ∷ reverse new) here after result → IsGoing known suits start whole (reverse old) here →
      GoesTo known suits start whole (steps_left known (reverse old) here) after result
  pops here old new p after result is go =
      subst (λ (o : List Pending). IsGoing known suits start whole o here → GoesTo known suits start whole (steps_left known o here) after result) (sym (pushed new old p is)) (go suits start whole)

pub stop_error : (x : RunValue) (e : RunError) → IsStop x e → IsError x e
stop_error x (error.Refused why left tested) h = absurd h
stop_error x (error.TurnLimit tested) h = h
stop_error x (error.LargeGoal tested) h = h
stop_error x error.Memory h = tt

stop_at_most : (n : ℕ) (x : RunValue) (e : RunError) → IsStop x e → HasAtMost n e
stop_at_most n x (error.Refused why left tested) h = absurd h
stop_at_most n x (error.TurnLimit tested) h = tt
stop_at_most n x (error.LargeGoal tested) h = tt
stop_at_most n x error.Memory h = tt

-- by a `?`
pub stopped : (x : RunValue) (result : Result Ran RunError) (y e : RunError) → result ≡ Err y → y ≡ e → IsStop x e → IsRun x result
stopped x result y e is same h = subst (IsRun x) (sym is) (subst (IsError x) (sym same) (stop_error x e h))

pub stopped_left : (n : ℕ) (x : RunValue) (result : Result Ran RunError) (y e : RunError) → result ≡ Err y → y ≡ e → IsStop x e → LeavesAtMost n result
stopped_left n x result y e is same h = subst (LeavesAtMost n) (sym is) (subst (HasAtMost n) (sym same) (stop_at_most n x e h))

-- a theorem is handed over in one step
pub handing_steps : (known : KnownValue) (how : Handing) (called : TheoremTacValue) (goal : GoalValue) (used : UsedValue) → 0 < steps_of known (expr_of_handing how called) goal used
handing_steps known handing.DischThen called goal used = omega arith
handing_steps known handing.PopAssum called goal used = omega arith
handing_steps known handing.FirstAssum called goal used = omega arith
handing_steps known (handing.SubgoalThen p) called goal used = omega arith

pub has_left_more : (m n : ℕ) (r : Reached) → m ≤ n → HasLeft m r → HasLeft n r
has_left_more m n (reached.Part expr goal used) h l = omega (arith, h, l)
has_left_more m n (reached.Left ran) h l = omega (arith, h, l)
has_left_more m n (reached.Refused why used) h l = omega (arith, h, l)
