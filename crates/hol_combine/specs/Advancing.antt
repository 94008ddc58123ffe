-- How a run goes on within what is pending. Only private clauses speak of it.
use Rattle.std.specs.Prelude.{◌≡◌, ◌<◌, ℕ, Bool, true, ◌&&◌, IsTrue, List, [], ◌∷◌, ◌++◌, length, Result, Ok, Err}
use Rattle.hol_kernel.specs.Items.{Items}
use Rattle.hol_kernel.specs.Sequent.{no_hyps}
use Rattle.hol_goal.specs.Goal.{GoalValue}
use Rattle.hol_just.specs.Answering.{suits as suits_args}
use Rattle.hol_just.specs.Valid.{IsValid}
use Rattle.hol_combine.specs.ExprValue.{CallValue, ExprValues, no_exprs, exprs}
use Rattle.hol_combine.specs.Runs.{KnownValue, RunValue, Stops, TurnLimit, LargeGoal}
use Rattle.hol_combine.specs.Suits.{all_calls, all_calls_of}
use Rattle.hol_combine.specs.Work.{WorkValue, work_value}
use Rattle.hol_combine.specs.Pending.{ReachedValue, Runs, Left, Refused, Goes, around, comes_to, reached_value}
use Rattle.hol_combine.specs.Steps.{steps_left}
use Rattle.hol_combine.specs.declared.ran.RunError.{RunError}
use Rattle.hol_combine.specs.declared.ran.RunError.TheVariants as error
use Rattle.hol_combine.specs.declared.pending.Pending.{Pending}
use Rattle.hol_combine.specs.declared.pending.Pending.TheVariants as pending
use Rattle.hol_combine.specs.declared.pending.Reached.{Reached}

-- ---- calls that may still be made

abbrev pub pending_parts : Pending → ExprValues
pending_parts (pending.Then parts more) = exprs (parts.now ++ more.now)
pending_parts (pending.Each parts more work) = exprs (parts.now ++ more.now)
pending_parts (pending.ThenL parts) = exprs parts.now
pending_parts (pending.Places parts work) = exprs parts.now
pending_parts (pending.OrElse goal next more) = exprs (next.now ∷ more.now)
pending_parts (pending.Try goal) = no_exprs
pending_parts (pending.Changed goal) = no_exprs
pending_parts (pending.Repeat part goal work) = exprs (part.now ∷ [])
pending_parts (pending.Replicate part more rounds work) = exprs (part.now ∷ [])

abbrev pub all_pending : (CallValue → Bool) → List Pending → Bool
all_pending test [] = true
all_pending test (p ∷ outer) = all_calls_of test (pending_parts p) && all_pending test outer

abbrev pub all_reached : (CallValue → Bool) → ReachedValue → Bool
all_reached test (Runs expr goal used) = all_calls test expr
all_reached test (Left goals moves used) = true
all_reached test (Refused why used) = true
all_reached test (Goes parts rest steps w) = all_calls_of test parts

-- ---- moves that are valid

-- those of goals that are gone through lead from one goal to those that are done, this one, and those that wait
abbrev pub LeadsBeside : (Items → Bool) → GoalValue → WorkValue → GoalValue → Type 0
LeadsBeside suits from w goal = IsValid suits no_hyps w.moves (from ∷ []) (w.done ++ goal ∷ w.waiting)

-- from the goal on which the whole stands to the one on which the part does
abbrev pub LeadsIn : (Items → Bool) → GoalValue → Pending → GoalValue → Type 0
LeadsIn suits from (pending.Then parts more) goal = goal ≡ from
LeadsIn suits from (pending.Each parts more work) goal = LeadsBeside suits from (work_value work) goal
LeadsIn suits from (pending.ThenL parts) goal = goal ≡ from
LeadsIn suits from (pending.Places parts work) goal = LeadsBeside suits from (work_value work) goal
LeadsIn suits from (pending.OrElse same next more) goal = (goal ≡ from) × (same ≡ from)
LeadsIn suits from (pending.Try same) goal = (goal ≡ from) × (same ≡ from)
LeadsIn suits from (pending.Changed same) goal = (goal ≡ from) × (same ≡ from)
LeadsIn suits from (pending.Repeat part same work) goal = (goal ≡ same) × LeadsBeside suits from (work_value work) goal
LeadsIn suits from (pending.Replicate part more rounds work) goal = LeadsBeside suits from (work_value work) goal

abbrev pub LeadsTo : (Items → Bool) → GoalValue → List Pending → GoalValue → Type 0
LeadsTo suits start [] goal = goal ≡ start
LeadsTo suits start (p ∷ outer) goal = (from : GoalValue) × LeadsIn suits from p goal × LeadsTo suits start outer from

abbrev pub IsLed : (Items → Bool) → GoalValue → List Pending → ReachedValue → Type 0
IsLed suits start outer (Runs expr goal used) = LeadsTo suits start outer goal
IsLed suits start outer (Left goals moves used) = (from : GoalValue) × IsValid suits no_hyps moves (from ∷ []) goals × LeadsTo suits start outer from
IsLed suits start outer (Refused why used) = (from : GoalValue) × LeadsTo suits start outer from
IsLed suits start outer (Goes parts rest steps w) = (from : GoalValue) × IsValid suits no_hyps w.moves (from ∷ []) (w.done ++ w.waiting) × LeadsTo suits start outer from

-- ---- how a run goes on

-- as many goals wait as there are expressions, or numbers of rounds
abbrev pub FitsPending : Pending → Type 0
FitsPending (pending.Then parts more) = Unit {0}
FitsPending (pending.Each parts more work) = Unit {0}
FitsPending (pending.ThenL parts) = Unit {0}
FitsPending (pending.Places parts work) = length (work_value work).waiting ≡ length parts.now
FitsPending (pending.OrElse goal next more) = Unit {0}
FitsPending (pending.Try goal) = Unit {0}
FitsPending (pending.Changed goal) = Unit {0}
FitsPending (pending.Repeat part goal work) = Unit {0}
FitsPending (pending.Replicate part more rounds work) = length (work_value work).waiting ≡ length rounds.items

abbrev pub AreFitting : List Pending → Type 0
AreFitting [] = Unit {0}
AreFitting (p ∷ outer) = FitsPending p × AreFitting outer

-- What a run has come to, within what is pending, comes to the whole, by valid moves from the goal at the start, over bases that suit.
pub record IsGoing (known : KnownValue) (suits : Items → Bool) (start : GoalValue) (whole : RunValue) (outer : List Pending) (here : ReachedValue) : Type 0 where
  pub answer : around known outer (comes_to known here) ≡ whole
  pub suiting : (basis : Items) → IsTrue (suits basis) → IsTrue (all_reached (λ call. suits_args call.args basis) here) × IsTrue (all_pending (λ call. suits_args call.args basis) outer)
  pub led : IsLed suits start outer here
  pub fits : AreFitting outer

-- a run is stopped
abbrev pub IsStop : RunValue → RunError → Type 0
IsStop whole (error.Refused why left tested) = ⊥
IsStop whole (error.TurnLimit tested) = whole ≡ Stops TurnLimit tested.items
IsStop whole (error.LargeGoal tested) = whole ≡ Stops LargeGoal tested.items
IsStop whole error.Memory = Unit {0}

-- it goes on, and fewer steps are left than so many; or it is stopped
abbrev pub GoesTo : KnownValue → (Items → Bool) → GoalValue → RunValue → ℕ → List Pending → Result Reached RunError → Type 0
GoesTo known suits start whole most outer (Ok here) = IsGoing known suits start whole outer (reached_value here) × (steps_left known outer (reached_value here) < most)
GoesTo known suits start whole most outer (Err e) = IsStop whole e

-- a run that is going goes on from what it has come to
abbrev pub GoesFrom : KnownValue → List Pending → ReachedValue → List Pending → Result Reached RunError → Type 0
GoesFrom known before here after result =
    (suits : Items → Bool) (start : GoalValue) (whole : RunValue) → IsGoing known suits start whole before here → GoesTo known suits start whole (steps_left known before here) after result
