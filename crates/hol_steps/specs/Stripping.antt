-- What the code says of stripping. Only its clauses speak of it.
use Rattle.std.specs.Prelude.{◌≡◌, Bool, List, [], ◌∷◌, Result, Ok, Err}
use Rattle.hol_kernel.specs.Items.{Items}
use Rattle.hol_kernel.specs.Sequent.{Hyps}
use Rattle.hol_goal.specs.Goal.{GoalValue}
use Rattle.hol_just.specs.Strip.{AvoidedValue, WaitingValue, Stripped, Leaves, RunsOut}
use Rattle.hol_just.specs.Valid.{IsValid}
use Rattle.hol_just.specs.declared.reason.Move.{Move}
use Rattle.hol_just.specs.declared.tried.Step.{Step}
use Rattle.hol_just.specs.declared.tried.Tried.{Tried}
use Rattle.hol_just.specs.declared.tried.TacFault.{TacFault}
use Rattle.hol_just.specs.declared.tried.TacFault.TheVariants.{Refused, TurnLimit, TooLarge, Memory}
use Rattle.hol_steps.specs.Fresh.{AreApart}
use Rattle.hol_steps.specs.Parts.{with_pieces}

-- the goals, the turns and the names that were tested are those that are left, or turns run out
abbrev pub IsStripped : Stripped → Result Tried TacFault → Type 0
IsStripped s (Ok tried) = s ≡ Leaves tried.step.goals.items (record { turns_left = tried.left; tested = tried.tested.items })
IsStripped s (Err (Refused left tested)) = ⊥
IsStripped s (Err (TurnLimit tested)) = s ≡ RunsOut tested.items
IsStripped s (Err (TooLarge tested)) = ⊥
IsStripped s (Err Memory) = Unit {0}

-- moves that led to the goal with its pieces go on, in the step, to the goals that are left
abbrev pub KeepsValid : AvoidedValue → List Move → WaitingValue → Step → Type 0
KeepsValid avoided before w step =
    (suits : Items → Bool) (extra : Hyps) (start : List GoalValue) → AreApart avoided.terms extra → IsValid suits extra before start (with_pieces w ∷ []) → IsValid suits extra step.just start step.goals.items
