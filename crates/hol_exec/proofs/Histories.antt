-- The commands on an open proof's history: what undoing and rotating come to, from what the code found.
use Rattle.std.specs.Prelude.{◌≡◌, ◌≢◌, ℕ, List, [], ◌∷◌, length, Option, Some, None, IfSome, refl}
use Rattle.std.proofs.Common.{sym, ◌∙◌, ap}
use Rattle.hol_stack.specs.StackValue.{StepValue}
use Rattle.hol_exec.specs.declared.reports.refusal.RefusalKind.{RefusalKind}
use Rattle.hol_exec.specs.declared.reports.refusal.RefusalKind.TheVariants as refusal
use Rattle.hol_kernel.specs.Items.{Items}
use Rattle.hol_goal.specs.Goal.{GoalValue}
use Rattle.hol_exec.specs.StateValue.{ProofValue, StateValue, open_goals, newest_of}
use Rattle.hol_exec.specs.OutcomeValue.{OutcomeValue, Leaves, Undoes, Rotates, Refuses, stepped, stepped_in, rotated, rotated_in, after}
use Rattle.hol_exec.specs.At.{undoes_to, undoes}

none_earlier : (steps : List StepValue) → length steps ≡ 0 → undoes_to steps ≡ Refuses refusal.NothingToUndo []
none_earlier [] e = refl
none_earlier (step ∷ steps) e = absurd (cc)

some_earlier : (steps : List StepValue) → length steps ≢ 0 → undoes_to steps ≡ Undoes
some_earlier [] e = absurd (e refl)
some_earlier (step ∷ steps) e = refl

pub nothing_undone : (o : Option ProofValue) (p : ProofValue) (outcome : OutcomeValue) → o ≡ Some p → length p.earlier ≡ 0 → outcome ≡ Refuses refusal.NothingToUndo [] → outcome ≡ undoes o
nothing_undone o p outcome is e f = f ∙ sym (none_earlier p.earlier e) ∙ ap undoes (sym is)

pub step_undone : (o : Option ProofValue) (p : ProofValue) (outcome : OutcomeValue) → o ≡ Some p → length p.earlier ≢ 0 → outcome ≡ Undoes → outcome ≡ undoes o
step_undone o p outcome is e f = f ∙ sym (some_earlier p.earlier e) ∙ ap undoes (sym is)

-- ---- the newest element

-- the goals of an element that is there
pub goals_of_newest : (o : Option ProofValue) (opened : Option StepValue) (element : StepValue) (goals : List GoalValue) → opened ≡ Some element → goals ≡ element.goals → opened ≡ newest_of o → goals ≡ open_goals o
goals_of_newest None opened element goals is e h = absurd (cc)
goals_of_newest (Some p) opened element goals is e h = let same : element ≡ p.newest = cc in e ∙ ap (λ (s : StepValue). s.goals) same

pub goals_of_none : (o : Option ProofValue) (opened : Option StepValue) (goals : List GoalValue) → opened ≡ None → goals ≡ [] → opened ≡ newest_of o → goals ≡ open_goals o
goals_of_none None opened goals is e h = e
goals_of_none (Some p) opened goals is e h = absurd (cc)

module _ (s : StateValue) (o : OutcomeValue) (opened : Option StepValue) (next : StepValue) (is : opened ≡ Some next) (h : opened ≡ newest_of (after s o).proof) where
  -- it is that of a step
  pub next_stepped : (goal : GoalValue) (goals : List GoalValue) (basis : Items) → o ≡ Leaves goal goals basis → IfSome s.proof (λ p. next ≡ (stepped goals basis p).newest)
  next_stepped goal goals basis e = by s.proof (sym is ∙ h ∙ ap (λ (x : OutcomeValue). newest_of (after s x).proof) e)
    where
      by : (p : Option ProofValue) → Some next ≡ newest_of (stepped_in goals basis p) → IfSome p (λ own. next ≡ (stepped goals basis own).newest)
      by None f = tt
      by (Some p) f = cc

  -- it is that of a turn
  pub next_rotated : (times : ℕ) → o ≡ Rotates times → IfSome s.proof (λ p. next ≡ (rotated times p).newest)
  next_rotated times e = by s.proof (sym is ∙ h ∙ ap (λ (x : OutcomeValue). newest_of (after s x).proof) e)
    where
      by : (p : Option ProofValue) → Some next ≡ newest_of (rotated_in times p) → IfSome p (λ own. next ≡ (rotated times own).newest)
      by None f = tt
      by (Some p) f = cc
