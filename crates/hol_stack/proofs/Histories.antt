-- Sound histories.
use Rattle.std.specs.Prelude.{◌≡◌, ℕ, ◌+◌, ◌<◌, List, [], ◌∷◌, length, take, reverse, get_or}
use Rattle.std.specs.List.{AllByRecursion}
use Rattle.std.proofs.Common.{sym, subst}
use Rattle.hol_terms.specs.Nameless.{Nameless}
use Rattle.hol_formulas.specs.Equation.{bool_type}
use Rattle.hol_kernel.specs.Items.{Items, IsSubset}
use Rattle.hol_kernel.specs.Sequent.{Sequent, no_hyps}
use Rattle.hol_kernel.specs.Typing.{HasType}
use Rattle.std.proofs.Math.Seq.{take-length}
use Rattle.hol_kernel.specs.Theorem.{Theorem}
use Rattle.hol_kernel.proofs.Subsets.{within_of_subset, subset_trans, within_itself}
use Rattle.hol_just.specs.Over.{AreOver, sequents}
use Rattle.hol_kernel.proofs.Weaken.{typed_wider}
use Rattle.hol_goal.specs.Goal.{GoalValue}
use Rattle.hol_goal.specs.Achieves.{IsTyped}
use Rattle.hol_just.specs.Valid.{AchieveAll}
use Rattle.hol_stack.specs.StackValue.{StepValue}
use Rattle.hol_stack.specs.Sound.{IsChange, AreSound, AchievesNext}
use Rattle.hol_stack.specs.declared.element.Change.{Change}
use Rattle.hol_stack.specs.declared.element.Change.TheVariants.{Left, Turned}
use Rattle.hol_stack.specs.declared.element.Earlier.{Earlier}
use Rattle.hol_stack.proofs.Turns.{turned_all, reverse_taken}

-- ---- goals over larger bases

formulas_more : (few more : Items) → IsSubset few more → (ps : List Nameless) → AllByRecursion (λ p. HasType few p bool_type) ps → AllByRecursion (λ p. HasType more p bool_type) ps
formulas_more few more sub [] a = tt
formulas_more few more sub (p ∷ ps) a = (typed_wider few more (within_of_subset few more sub) p bool_type a.0, formulas_more few more sub ps a.1)

typed_more : (few more : Items) (g : GoalValue) → IsSubset few more → IsTyped few g → IsTyped more g
typed_more few more g sub t = record {
  assumptions = formulas_more few more sub g.assumptions t.assumptions;
  conclusion = typed_wider few more (within_of_subset few more sub) g.conclusion bool_type t.conclusion;
}

change_typed :
    (basis larger : Items) (change : Change) (before after : List GoalValue) → IsSubset basis larger → IsChange basis change before after →
    AllByRecursion (IsTyped larger) before → AllByRecursion (IsTyped larger) after
change_typed basis larger (Left moves) before after sub v typed = (v larger sub typed).typed
change_typed basis larger (Turned n) before after sub v typed = subst (AllByRecursion (IsTyped larger)) (sym v.1) (turned_all (IsTyped larger) n before typed)

-- the goals of an element are well typed over each larger basis
pub all_typed : (goal : GoalValue) (step : StepValue) (earlier : List Earlier) (basis : Items) → AreSound goal step earlier → IsSubset step.basis basis → AllByRecursion (IsTyped basis) step.goals
all_typed goal step [] basis first sub =
    subst (AllByRecursion (IsTyped basis)) (sym first.goals) (typed_more step.basis basis goal sub first.typed, tt)
all_typed goal step (one ∷ earlier) basis s sub =
    change_typed step.basis basis one.change one.step.goals step.goals sub s.0.changed
    (all_typed goal one.step earlier basis s.1 (subset_trans one.step.basis step.basis basis s.0.within sub))

-- and so is the goal that the stack was set to
pub goal_typed : (goal : GoalValue) (step : StepValue) (earlier : List Earlier) (basis : Items) → AreSound goal step earlier → IsSubset step.basis basis → IsTyped basis goal
goal_typed goal step [] basis first sub = typed_more step.basis basis goal sub first.typed
goal_typed goal step (one ∷ earlier) basis s sub = goal_typed goal one.step earlier basis s.1 (subset_trans one.step.basis step.basis basis s.0.within sub)

pub goal_plain : (goal : GoalValue) (step : StepValue) (earlier : List Earlier) → AreSound goal step earlier → goal.assumptions ≡ []
goal_plain goal step [] first = first.plain
goal_plain goal step (one ∷ earlier) s = goal_plain goal one.step earlier s.1

-- ---- from the newest element to the first

pub none_over : (basis : Items) (thms : List Theorem) → thms ≡ [] → AreOver basis thms
none_over basis thms none = subst (AreOver basis) (sym none) tt

-- The sequents achieve the goals of an element that came after these.
pub record IsBack (goal : GoalValue) (basis : Items) (earlier : List Earlier) (ss : List Sequent) : Type 0 where
  pub step : StepValue
  pub sound : AreSound goal step earlier
  pub within : IsSubset step.basis basis
  pub achieved : AchieveAll no_hyps ss step.goals

pub back_to :
    (goal : GoalValue) (basis : Items) (earlier : List Earlier) (i j : ℕ) (one : Earlier) (ss : List Sequent) → j ≡ i + 1 → i < length earlier →
    one ≡ get_or earlier i one → IsBack goal basis (reverse (take j earlier)) ss → IsBack goal basis (one ∷ reverse (take i earlier)) ss
back_to goal basis earlier i j one ss at h e b = subst (λ es. IsBack goal basis es ss) (reverse_taken earlier i j one at h e) b

pub next_achieved : (goal : GoalValue) (basis : Items) (one : Earlier) (earlier : List Earlier) (ss : List Sequent) → IsBack goal basis (one ∷ earlier) ss → AchievesNext basis one ss
next_achieved goal basis one earlier ss b = record {
  next = b.step;
  follows = b.sound.0;
  within = b.within;
  typed = all_typed goal one.step earlier basis b.sound.1 (subset_trans one.step.basis b.step.basis basis b.sound.0.within b.within);
  achieved = b.achieved;
}

pub before_achieved :
    (goal : GoalValue) (basis : Items) (one : Earlier) (earlier : List Earlier) (ss out : List Sequent) → IsBack goal basis (one ∷ earlier) ss →
    AchieveAll no_hyps out one.step.goals → IsBack goal basis earlier out
before_achieved goal basis one earlier ss out b a = record {
  step = one.step;
  sound = b.sound.1;
  within = subset_trans one.step.basis b.step.basis basis b.sound.0.within b.within;
  achieved = a;
}

pub first_achieved : (goal : GoalValue) (basis : Items) (ss : List Sequent) → IsBack goal basis [] ss → AchieveAll no_hyps ss (goal ∷ [])
first_achieved goal basis ss b = subst (AchieveAll no_hyps ss) b.sound.goals b.achieved

pub back_begins :
    (goal : GoalValue) (step : StepValue) (earlier : List Earlier) (thms : List Theorem) → step.goals ≡ [] → thms ≡ [] → AreSound goal step (reverse earlier) →
    IsBack goal step.basis (reverse (take (length earlier) earlier)) (sequents thms)
back_begins goal step earlier thms closed none sound = record {
  step = step;
  sound = subst (λ es. AreSound goal step (reverse es)) (sym (take-length earlier)) sound;
  within = within_itself step.basis;
  achieved =
      subst (λ ts. AchieveAll no_hyps (sequents ts) step.goals) (sym none) (subst (AchieveAll no_hyps []) (sym closed) tt);
}

pub back_ends : (goal : GoalValue) (basis : Items) (earlier : List Earlier) (left : ℕ) (ss : List Sequent) → left ≡ 0 → IsBack goal basis (reverse (take left earlier)) ss → AchieveAll no_hyps ss (goal ∷ [])
back_ends goal basis earlier left ss none b = first_achieved goal basis ss (subst (λ k. IsBack goal basis (reverse (take k earlier)) ss) none b)
