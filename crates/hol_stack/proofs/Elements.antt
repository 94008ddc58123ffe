-- Elements made of the one before them.
use Rattle.std.specs.Prelude.{◌≡◌, ℕ, zero, suc, ◌+◌, ◌%◌, ◌<◌, ◌≤◌, List, [], ◌∷◌, ◌++◌, length, drop, take, refl}
use Rattle.std.specs.FinSet as set
use Rattle.std.proofs.Common.{ap, sym, ◌∙◌, subst, arith}
use Rattle.std.proofs.Math.Nat.{mod-lt}
use Rattle.hol_kernel.specs.Items.{Items, IsSubset}
use Rattle.hol_kernel.specs.Sequent.{no_hyps}
use Rattle.hol_kernel.proofs.Subsets.{subset_left, within_itself}
use Rattle.hol_goal.specs.Goal.{GoalValue}
use Rattle.hol_just.specs.Gives.{moved}
use Rattle.hol_just.specs.Valid.{IsValid}
use Rattle.hol_just.specs.declared.reason.Move.{Move}
use Rattle.hol_just.proofs.Validity.{valid_none, valid_at}
use Rattle.hol_stack.specs.StackValue.{StepValue, SharedStepValue, StackValue, followed, turned, rotated}
use Rattle.hol_stack.specs.Calls.{IsStep}
use Rattle.hol_stack.specs.Sound.{Follows}
use Rattle.hol_stack.specs.declared.element.Change.TheVariants.{Left, Turned}
use Rattle.hol_stack.proofs.Turns.{turned_by}

-- ---- by a step

nothing_more : (n : ℕ) → 0 + n ≡ n
nothing_more n = omega arith

unmoved : (moves : List Move) → moved 0 moves ≡ moves
unmoved [] = refl
unmoved (one ∷ moves) = λ i. record one { place = nothing_more one.place i } ∷ unmoved moves i

step_valid : (basis : Items) (moves : List Move) (left goals : List GoalValue) → IsStep basis moves left goals → IsValid (set.is_subset basis) no_hyps moves goals (left ++ drop 1 goals)
step_valid basis moves left [] step = absurd step
step_valid basis moves left (g ∷ gs) step =
    subst (λ ms. IsValid (set.is_subset basis) no_hyps ms (g ∷ gs) (left ++ gs)) (unmoved moves)
    (valid_at (set.is_subset basis) no_hyps [] moves (g ∷ gs) [] (g ∷ []) left gs 0 refl (valid_none (set.is_subset basis) no_hyps (g ∷ gs)) step)

-- what a step makes of an element, over a basis that contains that of the element
pub goals_follow :
    (before next : StepValue) (step own : SharedStepValue) → own ≡ step → IsSubset before.basis next.basis → IsStep next.basis step.moves step.goals before.goals →
    next.goals ≡ step.goals ++ drop 1 before.goals → Follows before (Left own) next
goals_follow before next step own same within is goals = record {
  within = within;
  changed =
      subst (λ (s : SharedStepValue). IsValid (set.is_subset next.basis) no_hyps s.moves before.goals next.goals) (sym same)
      (subst (IsValid (set.is_subset next.basis) no_hyps step.moves before.goals) (sym goals) (step_valid next.basis step.moves step.goals before.goals is));
}

pub step_follows :
    (before next : StepValue) (basis : Items) (step own : SharedStepValue) → own ≡ step → IsStep (set.union before.basis basis) step.moves step.goals before.goals →
    next ≡ record { goals = step.goals ++ drop 1 before.goals; basis = set.union before.basis basis } → Follows before (Left own) next
step_follows before next basis step own same is made =
    subst (Follows before (Left own)) (sym made)
    (goals_follow before (record { goals = step.goals ++ drop 1 before.goals; basis = set.union before.basis basis }) step own same (subset_left before.basis basis) is refl)

-- ---- by a turn

pub turn_follows :
    (before next : StepValue) (by : ℕ) → by ≤ length before.goals → next ≡ record before { goals = drop by before.goals ++ take by before.goals } →
    Follows before (Turned by) next
turn_follows before next by h is =
    subst (Follows before (Turned by)) (sym is) (record { within = within_itself before.basis; changed = (h, refl) })

pub rotated_by :
    (old new : StackValue) (next : StepValue) (times by count : ℕ) → count ≡ length old.newest.goals → by ≡ times % count → by ≤ length old.newest.goals →
    next ≡ record old.newest { goals = drop by old.newest.goals ++ take by old.newest.goals } → new ≡ followed next old → new ≡ rotated times old
rotated_by old new next times by count is rest h made follows =
    follows
    ∙ ap (λ (s : StepValue). followed s old) made
    ∙ ap (λ (gs : List GoalValue). followed (record { goals = gs; basis = old.newest.basis }) old) (sym (turned_by times by count old.newest.goals is rest h))

positive : (n : ℕ) → (n ≡ 0 → ⊥) → 0 < n
positive zero f = absurd (f refl)
positive (suc n) f = omega arith

pub turn_fits : (times : ℕ) (goals open_goals : List GoalValue) → goals ≡ open_goals → (length goals ≡ 0 → ⊥) → times % length goals ≤ length open_goals
turn_fits times goals open_goals same some =
    let below = mod-lt times (positive (length goals) some) in
    let as_long : length goals ≡ length open_goals = ap length same in
    omega (arith, below, as_long)

-- ---- by a turn to an element that is there

pub some_open : (goals open_goals : List GoalValue) → goals ≡ open_goals → (open_goals ≡ [] → ⊥) → length goals ≡ 0 → ⊥
some_open goals open_goals same some none = by open_goals some (sym (ap length same) ∙ none)
  where
    by : (gs : List GoalValue) → (gs ≡ [] → ⊥) → length gs ≡ 0 → ⊥
    by [] f e = f refl
    by (g ∷ gs) f e = absurd (cc)

pub kept_turn :
    (before next element : StepValue) (times by count : ℕ) → element ≡ next → next ≡ record { goals = turned times before.goals; basis = before.basis } →
    count ≡ length before.goals → by ≡ times % count → by ≤ length before.goals → Follows before (Turned by) element
kept_turn before next element times by count same is counts rest h =
    turn_follows before element by h (same ∙ is ∙ ap (λ (gs : List GoalValue). record { goals = gs; basis = before.basis }) (turned_by times by count before.goals counts rest h))
