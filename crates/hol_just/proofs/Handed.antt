-- An extra hypothesis that is handed over from an assumption.
use Rattle.std.specs.Prelude.{◌≡◌, Bool, true, List, [], ◌∷◌, Option, Some, None}
use Rattle.std.specs.FinSet as set
use Rattle.std.proofs.Common.{sym, subst, inl, inr}
use Rattle.hol_terms.specs.Nameless.{Nameless}
use Rattle.hol_terms.specs.Alpha.{strip}
use Rattle.hol_kernel.specs.Items.{Items}
use Rattle.hol_kernel.specs.Sequent.{Hyps, no_hyps, only_hyp, Sequent}
use Rattle.hol_kernel.proofs.HypothesisLists.{hyps_total, hyps_same}
use Rattle.hol_kernel.proofs.Members.{in_insert_here, in_insert_old, in_insert_cases, in_union_cases, in_union_left, in_union_right, not_in_empty}
use Rattle.hol_goal.specs.Goal.{GoalValue}
use Rattle.hol_goal.specs.Achieves.{assumed, AreAllowed}
use Rattle.hol_just.specs.Gives.{gives}
use Rattle.hol_just.specs.Justifies.{goal_at}
use Rattle.hol_just.specs.Valid.{AchieveAll, Answers, IsValid}
use Rattle.hol_just.specs.declared.reason.Move.{Move}

module _ (extra : Hyps) (p : Nameless) where
  widened : (assumptions : List Nameless) (hs : Hyps) → AreAllowed extra assumptions hs → AreAllowed (set.union extra (only_hyp p)) assumptions hs
  widened assumptions hs a r h =
      elim (in_union_cases hyps_total hyps_same extra (assumed assumptions) r (a r h)) [
        | inl i ↦ in_union_left hyps_total hyps_same (set.union extra (only_hyp p)) (assumed assumptions) r (in_union_left hyps_total hyps_same extra (only_hyp p) r i)
        | inr i ↦ in_union_right hyps_total hyps_same (set.union extra (only_hyp p)) (assumed assumptions) r i
      ]

  narrowed : (assumptions : List Nameless) (hs : Hyps) → AreAllowed (set.union extra (only_hyp p)) assumptions hs → AreAllowed extra (p ∷ assumptions) hs
  narrowed assumptions hs a r h =
      elim (in_union_cases hyps_total hyps_same (set.union extra (only_hyp p)) (assumed assumptions) r (a r h)) [
        | inl i ↦ elim (in_union_cases hyps_total hyps_same extra (only_hyp p) r i) [
          | inl j ↦ in_union_left hyps_total hyps_same extra (assumed (p ∷ assumptions)) r j
          | inr j ↦ elim (in_insert_cases hyps_total hyps_same no_hyps (strip p) r j) [
            | inl e ↦ in_union_right hyps_total hyps_same extra (assumed (p ∷ assumptions)) r
                (subst (λ (z : Nameless). set.contains (assumed (p ∷ assumptions)) z ≡ true) (sym e) (in_insert_here hyps_total hyps_same (assumed assumptions) (strip p)))
            | inr k ↦ absurd (not_in_empty hyps_total hyps_same r k)
          ]
        ]
        | inr i ↦ in_union_right hyps_total hyps_same extra (assumed (p ∷ assumptions)) r (in_insert_old hyps_total hyps_same (assumed assumptions) (strip p) r i)
      ]

  all_widened : (ss : List Sequent) (gs : List GoalValue) → AchieveAll extra ss gs → AchieveAll (set.union extra (only_hyp p)) ss gs
  all_widened [] [] a = tt
  all_widened [] (g ∷ gs) a = absurd a
  all_widened (s ∷ ss) [] a = absurd a
  all_widened (s ∷ ss) (g ∷ gs) a = (record { concludes = a.0.concludes; allowed = widened g.assumptions s.hyps a.0.allowed }, all_widened ss gs a.1)

  one_narrowed : (assumptions : List Nameless) (q : Nameless) (ss : List Sequent) → AchieveAll (set.union extra (only_hyp p)) ss (goal_at assumptions q ∷ []) → AchieveAll extra ss (goal_at (p ∷ assumptions) q ∷ [])
  one_narrowed assumptions q [] a = absurd a
  one_narrowed assumptions q (s ∷ []) a = (record { concludes = a.0.concludes; allowed = narrowed assumptions s.hyps a.0.allowed }, tt)
  one_narrowed assumptions q (s ∷ t ∷ ss) a = absurd a.1

  answer_narrowed :
      (assumptions : List Nameless) (q : Nameless) (o : Option (List Sequent)) → Answers (set.union extra (only_hyp p)) o (goal_at assumptions q ∷ []) → Answers extra o (goal_at (p ∷ assumptions) q ∷ [])
  answer_narrowed assumptions q None a = absurd a
  answer_narrowed assumptions q (Some ss) a = one_narrowed assumptions q ss a

pub valid_from_assumption :
    (suits : Items → Bool) (extra : Hyps) (moves : List Move) (assumptions : List Nameless) (p q : Nameless) (after : List GoalValue) →
    IsValid suits (set.union extra (only_hyp p)) moves (goal_at assumptions q ∷ []) after → IsValid suits extra moves (goal_at (p ∷ assumptions) q ∷ []) after
valid_from_assumption suits extra moves assumptions p q after v basis suit typed =
    let a = v basis suit (record { assumptions = typed.0.assumptions.1; conclusion = typed.0.conclusion }, tt) in
    record {
      typed = a.typed;
      fits = a.fits;
      answers = λ ss h. answer_narrowed extra p assumptions q (gives basis moves ss) (a.answers ss (all_widened extra p ss after h));
    }
