-- What a stack keeps of how its elements were made. Only private clauses speak of it.
use Rattle.std.specs.Prelude.{◌≡◌, ◌≤◌, List, [], ◌∷◌, ◌++◌, length, drop, take}
use Rattle.std.specs.List.{AllByRecursion}
use Rattle.std.specs.FinSet as set
use Rattle.hol_kernel.specs.Items.{Items, IsSubset}
use Rattle.hol_kernel.specs.Sequent.{Sequent, no_hyps}
use Rattle.hol_goal.specs.Goal.{GoalValue}
use Rattle.hol_goal.specs.Achieves.{IsTyped}
use Rattle.hol_just.specs.Valid.{IsValid, AchieveAll}
use Rattle.hol_stack.specs.StackValue.{StepValue}
use Rattle.hol_stack.specs.declared.element.Change.{Change}
use Rattle.hol_stack.specs.declared.element.Change.TheVariants.{Left, Turned}
use Rattle.hol_stack.specs.declared.element.Earlier.{Earlier}

-- the goals after are what the change makes of those before
abbrev pub IsChange : Items → Change → List GoalValue → List GoalValue → Type 0
IsChange basis (Left step) before after = IsValid (set.is_subset basis) no_hyps step.moves before after
IsChange basis (Turned n) before after = (n ≤ length before) × (after ≡ drop n before ++ take n before)

-- the element made by a change of the one before it
pub record Follows (before : StepValue) (change : Change) (after : StepValue) : Type 0 where
  pub within : IsSubset before.basis after.basis
  pub changed : IsChange after.basis change before.goals after.goals

-- the first element: the goal, which has no assumptions
pub record IsFirst (goal : GoalValue) (step : StepValue) : Type 0 where
  pub goals : step.goals ≡ goal ∷ []
  pub typed : IsTyped step.basis goal
  pub plain : goal.assumptions ≡ []

-- each element was made from the one before it, the first one from the goal
abbrev pub AreSound : GoalValue → StepValue → List Earlier → Type 0
AreSound goal step [] = IsFirst goal step
AreSound goal step (one ∷ earlier) = Follows one.step one.change step × AreSound goal one.step earlier

-- The sequents achieve the goals that the change left of an element, whose goals are well typed over the basis.
pub record AchievesNext (basis : Items) (one : Earlier) (sequents : List Sequent) : Type 0 where
  pub next : StepValue
  pub follows : Follows one.step one.change next
  pub within : IsSubset next.basis basis
  pub typed : AllByRecursion (IsTyped basis) one.step.goals
  pub achieved : AchieveAll no_hyps sequents next.goals
