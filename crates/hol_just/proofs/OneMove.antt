-- Justifications of one move.
use Rattle.std.specs.Prelude.{◌≡◌, Bool, IsTrue, List, [], ◌∷◌, Option, Some, None}
use Rattle.std.specs.Option.{option_map}
use Rattle.std.specs.List.{AllByRecursion}
use Rattle.std.proofs.Common.{subst, sym}
use Rattle.hol_kernel.specs.Items.{Items}
use Rattle.hol_kernel.specs.Sequent.{Hyps, Sequent}
use Rattle.hol_goal.specs.Goal.{GoalValue}
use Rattle.hol_goal.specs.Achieves.{Achieves, IsTyped}
use Rattle.hol_just.specs.Inference.{Inference, from_none, from_one, from_two, from_three, inferred}
use Rattle.hol_just.specs.Reasons.{inference, Fits}
use Rattle.hol_just.specs.Valid.{AchieveAll, Answers, IsValid}
use Rattle.hol_just.specs.declared.reason.Reason.{Reason}
use Rattle.hol_just.specs.declared.reason.Move.{Move}

abbrev pub one : Reason → List Move
one reason = record { place = 0; reason = reason } ∷ []

-- the rule makes of what achieves the goals after what achieves the goal before
abbrev pub Justifies : Hyps → Inference → GoalValue → List GoalValue → Type 0
Justifies extra rule before after = (ss : List Sequent) → AchieveAll extra ss after → Answers extra (inferred rule ss) (before ∷ [])

-- what a reason has to meet over each basis
pub record IsStep (extra : Hyps) (reason : Reason) (before : GoalValue) (after : List GoalValue) (basis : Items) : Type 0 where
  pub typed : AllByRecursion (IsTyped basis) after
  pub fits : Fits basis reason
  pub justifies : Justifies extra (inference basis reason) before after

pub one_valid :
    (suits : Items → Bool) (extra : Hyps) (reason : Reason) (before : GoalValue) (after : List GoalValue) →
    ((basis : Items) → IsTrue (suits basis) → IsTyped basis before → IsStep extra reason before after basis) → IsValid suits extra (one reason) (before ∷ []) after
one_valid suits extra reason before after step basis suit typed =
    let s = step basis suit typed.0 in
    record { typed = s.typed; fits = (s.fits, tt); answers = s.justifies }

-- there is a sequent, and it achieves the goal
abbrev pub IsAnswer : Hyps → Option Sequent → GoalValue → Type 0
IsAnswer extra None g = ⊥
IsAnswer extra (Some s) g = Achieves extra s g

module _ (extra : Hyps) (before : GoalValue) where
  put : (o : Option Sequent) → IsAnswer extra o before → Answers extra (option_map (λ s. s ∷ []) o) (before ∷ [])
  put (Some s) a = (a, tt)
  put None a = absurd a

  pub by_none : (o : Option Sequent) → IsAnswer extra o before → Justifies extra (from_none o) before []
  by_none o a [] h = put o a
  by_none o a (s ∷ ss) h = absurd h

  pub by_one : (rule : Sequent → Option Sequent) (g : GoalValue) → ((a : Sequent) → Achieves extra a g → IsAnswer extra (rule a) before) → Justifies extra (from_one rule) before (g ∷ [])
  by_one rule g f [] h = absurd h
  by_one rule g f (a ∷ []) h = put (rule a) (f a h.0)
  by_one rule g f (a ∷ b ∷ ss) h = absurd h.1

  pub by_two :
      (rule : Sequent → Sequent → Option Sequent) (g h : GoalValue) → ((a b : Sequent) → Achieves extra a g → Achieves extra b h → IsAnswer extra (rule a b) before) →
      Justifies extra (from_two rule) before (g ∷ h ∷ [])
  by_two rule g h f [] k = absurd k
  by_two rule g h f (a ∷ []) k = absurd k.1
  by_two rule g h f (a ∷ b ∷ []) k = put (rule a b) (f a b k.0 k.1.0)
  by_two rule g h f (a ∷ b ∷ c ∷ ss) k = absurd k.1.1

  pub by_three :
      (rule : Sequent → Sequent → Sequent → Option Sequent) (g h l : GoalValue) →
      ((a b c : Sequent) → Achieves extra a g → Achieves extra b h → Achieves extra c l → IsAnswer extra (rule a b c) before) → Justifies extra (from_three rule) before (g ∷ h ∷ l ∷ [])
  by_three rule g h l f [] k = absurd k
  by_three rule g h l f (a ∷ []) k = absurd k.1
  by_three rule g h l f (a ∷ b ∷ []) k = absurd k.1.1
  by_three rule g h l f (a ∷ b ∷ c ∷ []) k = put (rule a b c) (f a b c k.0 k.1.0 k.1.1.0)
  by_three rule g h l f (a ∷ b ∷ c ∷ d ∷ ss) k = absurd k.1.1.1

pub answer_by : (extra : Hyps) (o : Option Sequent) (s : Sequent) (g : GoalValue) → o ≡ Some s → Achieves extra s g → IsAnswer extra o g
answer_by extra o s g is a = subst (λ (r : Option Sequent). IsAnswer extra r g) (sym is) a
