-- Valid justifications (LNCS 78, Edinburgh LCF: a tactic is valid where its validation achieves the goal).
use Rattle.std.specs.Prelude.{Bool, IsTrue, List, [], ◌∷◌, Option, Some, None}
use Rattle.std.specs.List.{AllByRecursion}
use Rattle.hol_kernel.specs.Items.{Items}
use Rattle.hol_kernel.specs.Sequent.{Hyps, Sequent}
use Rattle.hol_goal.specs.Goal.{GoalValue}
use Rattle.hol_goal.specs.Achieves.{Achieves, IsTyped}
use Rattle.hol_just.specs.Reasons.{Fits}
use Rattle.hol_just.specs.Gives.{gives}
use Rattle.hol_just.specs.declared.reason.Move.{Move}

-- one sequent for each goal, in order
abbrev pub AchieveAll : Hyps → List Sequent → List GoalValue → Type 0
AchieveAll extra [] [] = Unit {0}
AchieveAll extra [] (g ∷ goals) = ⊥
AchieveAll extra (s ∷ sequents) [] = ⊥
AchieveAll extra (s ∷ sequents) (g ∷ goals) = Achieves extra s g × AchieveAll extra sequents goals

-- there are sequents, and they achieve the goals
abbrev pub Answers : Hyps → Option (List Sequent) → List GoalValue → Type 0
Answers extra None goals = ⊥
Answers extra (Some sequents) goals = AchieveAll extra sequents goals

abbrev pub FitsAt : Items → Move → Type 0
FitsAt basis one = Fits basis one.reason

-- Over a basis: the goals that are left are well typed, the moves fit, and whatever achieves the goals that are left gives what achieves those that there were.
pub record IsValidOver (extra : Hyps) (moves : List Move) (before after : List GoalValue) (basis : Items) : Type 0 where
  pub typed : AllByRecursion (IsTyped basis) after
  pub fits : AllByRecursion (FitsAt basis) moves
  pub answers : (sequents : List Sequent) → AchieveAll extra sequents after → Answers extra (gives basis moves sequents) before

-- The moves are valid from the goals before to those after, over each basis that suits what was handed in, where the goals before are well typed.
abbrev pub IsValid : (Items → Bool) → Hyps → List Move → List GoalValue → List GoalValue → Type 0
IsValid suits extra moves before after = (basis : Items) → IsTrue (suits basis) → AllByRecursion (IsTyped basis) before → IsValidOver extra moves before after basis
