-- What is left of a goal, and when a proof can take that step.
use Rattle.std.specs.Prelude.{◌≡◌, true, List, [], ◌∷◌, length, refl, Some}
use Rattle.std.specs.FinSet as set
use Rattle.std.proofs.Common.{sym, subst}
use Rattle.hol_kernel.specs.Items.{Items}
use Rattle.hol_kernel.specs.Extends.{Agree}
use Rattle.hol_kernel.specs.Sequent.{no_hyps}
use Rattle.hol_kernel.proofs.Subsets.{subset_trans, subset_right}
use Rattle.hol_goal.specs.Goal.{GoalValue}
use Rattle.hol_combine.specs.ExprValue.{ExprValue}
use Rattle.hol_combine.specs.Suits.{suits_expr}
use Rattle.hol_exec.proofs.Suited.{suits_larger}
use Rattle.hol_just.specs.Valid.{IsValid}
use Rattle.hol_just.specs.declared.reason.Move.{Move}
use Rattle.hol_just.specs.declared.tried.Step.{Step}
use Rattle.hol_just.proofs.Validity.{valid_under}
use Rattle.hol_stack.specs.StackValue.{SharedStepValue}
use Rattle.hol_stack.specs.Calls.{IsStep}
use Rattle.hol_exec.specs.StateValue.{ProofValue}
use Rattle.hol_exec.specs.ReadsValue.{first_of}
use Rattle.hol_exec.specs.Valid.{IsLeft, CanStep}

-- ---- what a run left

-- an expression that a basis suits is suited by each that contains it
pub left_by : (basis : Items) (e : ExprValue) (first goal : GoalValue) (step : Step) → suits_expr e basis ≡ true → goal ≡ first → IsValid (suits_expr e) no_hyps step.just (first ∷ []) step.goals.items → IsLeft basis step.just goal step.goals.items
left_by basis e first goal step suited same h =
    subst (λ (g : GoalValue). IsValid (set.is_subset basis) no_hyps step.just (g ∷ []) step.goals.items) (sym same)
    (valid_under (suits_expr e) (set.is_subset basis) no_hyps step.just (first ∷ []) step.goals.items (λ more k. suits_larger e basis more k suited) h)

-- equal values are left so too
pub left_same : (basis own : Items) (step kept : SharedStepValue) (goal first : GoalValue) → own ≡ basis → kept ≡ step → first ≡ goal → IsLeft basis step.moves goal step.goals → IsLeft own kept.moves first kept.goals
left_same basis own step kept goal first d e f h =
    subst (λ (b : Items). IsLeft b kept.moves first kept.goals) (sym d)
    (subst (λ (s : SharedStepValue). IsLeft basis s.moves first s.goals) (sym e)
    (subst (λ (x : GoalValue). IsLeft basis step.moves x step.goals) (sym f) h))

-- ---- the step of a proof

module _ (basis : Items) (moves : List Move) (goal : GoalValue) (left : List GoalValue) (h : IsLeft basis moves goal left) where
  from_first : (own : Items) (goals : List GoalValue) → first_of goals ≡ Some goal → IsStep (set.union own basis) moves left goals
  from_first own [] e = absurd (cc)
  from_first own (g ∷ goals) e =
      let same : g ≡ goal = cc in
      subst (λ (x : GoalValue). IsValid (set.is_subset (set.union own basis)) no_hyps moves (x ∷ []) left) (sym same)
      (valid_under (set.is_subset basis) (set.is_subset (set.union own basis)) no_hyps moves (goal ∷ []) left
      (λ more k. subset_trans basis (set.union own basis) more (subset_right own basis) k) h)

  pub steps : (p : ProofValue) → Agree p.newest.basis basis → first_of p.newest.goals ≡ Some goal → CanStep basis moves left p
  steps p agree first = record { joins = agree; step = from_first p.newest.basis p.newest.goals first }

-- ---- the end of a proof

pub none_open : (goals : List GoalValue) → length goals ≡ 0 → (goals ≡ [] → ⊥) → ⊥
none_open [] e f = f refl
none_open (g ∷ goals) e f = absurd (cc)
