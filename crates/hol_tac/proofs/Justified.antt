-- Steps are justified by the validity of their moves, for each kind of arguments.
use Rattle.std.specs.Prelude.{◌≡◌, true, List, [], ◌∷◌}
use Rattle.std.specs.FinSet as set
use Rattle.std.proofs.Common.{sym, subst}
use Rattle.hol_terms.specs.Named.{Named}
use Rattle.hol_terms.specs.Nameless.{nameless}
use Rattle.hol_kernel.specs.Given.{Given, given_sequent}
use Rattle.hol_kernel.specs.Sequent.{Hyps, no_hyps}
use Rattle.hol_kernel.proofs.HypothesisLists.{hyps_total, hyps_same}
use Rattle.hol_kernel.proofs.Members.{same_members, not_in_empty}
use Rattle.hol_goal.specs.Goal.{GoalValue}
use Rattle.hol_goal.specs.Achieves.{AreAllowed}
use Rattle.hol_goal.specs.ArgumentsView.{args_value}
use Rattle.hol_goal.specs.declared.tac_args.TacArgs.{TacArgs}
use Rattle.hol_goal.specs.declared.tac_args.TacArgs.TheVariants as args
use Rattle.hol_just.specs.Valid.{IsValid}
use Rattle.hol_just.specs.Justifies.{always, holds_term, holds_given}
use Rattle.hol_just.specs.Answering.{suits, IsJustified}
use Rattle.hol_just.specs.declared.reason.Move.{Move}
use Rattle.hol_just.proofs.Validity.{valid_under}
use Rattle.hol_kernel.proofs.Stands.{both}
use Rattle.hol_just.specs.declared.tried.Step.{Step}

-- no hypotheses are left over where there are none
none_left : (extra : Hyps) → set.is_subset extra no_hyps ≡ true → no_hyps ≡ extra
none_left extra h =
    same_members hyps_total hyps_same no_hyps extra (λ q e. absurd (not_in_empty hyps_total hyps_same q e))
    (λ q e. set.is_subset-contains hyps_total extra no_hyps h q e)

-- what the step keeps
module _ (goal : GoalValue) (step : Step) (moves : List Move) (left : List GoalValue) (kept : step.just ≡ moves) (leaves : step.goals.items ≡ left) where
  pub by_nothing : (a : TacArgs) → a ≡ args.Nothing → IsValid always no_hyps moves (goal ∷ []) left → IsJustified (args_value a) goal step
  by_nothing a is valid =
      subst (λ (b : TacArgs). IsJustified (args_value b) goal step) (sym is)
      (λ extra over.
      subst (λ (hs : Hyps). IsValid always hs step.just (goal ∷ []) step.goals.items) (none_left extra over.among)
      (subst (λ (ms : List Move). IsValid always no_hyps ms (goal ∷ []) step.goals.items) (sym kept)
      (subst (λ (gs : List GoalValue). IsValid always no_hyps moves (goal ∷ []) gs) (sym leaves) valid)))

  pub by_term : (a : TacArgs) (t : Named) → a ≡ args.Term t → IsValid (holds_term (nameless [] t)) no_hyps moves (goal ∷ []) left → IsJustified (args_value a) goal step
  by_term a t is valid =
      subst (λ (b : TacArgs). IsJustified (args_value b) goal step) (sym is)
      (λ extra over.
      subst (λ (hs : Hyps). IsValid (holds_term (nameless [] t)) hs step.just (goal ∷ []) step.goals.items) (none_left extra over.among)
      (subst (λ (ms : List Move). IsValid (holds_term (nameless [] t)) no_hyps ms (goal ∷ []) step.goals.items) (sym kept)
      (subst (λ (gs : List GoalValue). IsValid (holds_term (nameless [] t)) no_hyps moves (goal ∷ []) gs) (sym leaves) valid)))

  pub by_theorem :
      (a : TacArgs) (th : Given) → a ≡ args.Theorem th →
      ((extra : Hyps) → AreAllowed extra goal.assumptions (given_sequent th).hyps → IsValid (holds_given th) extra moves (goal ∷ []) left) → IsJustified (args_value a) goal step
  by_theorem a th is valid =
      subst (λ (b : TacArgs). IsJustified (args_value b) goal step) (sym is)
      (λ extra over.
      subst (λ (ms : List Move). IsValid (holds_given th) extra ms (goal ∷ []) step.goals.items) (sym kept)
      (subst (λ (gs : List GoalValue). IsValid (holds_given th) extra moves (goal ∷ []) gs) (sym leaves) (valid extra over.all)))

  pub by_theorem_among :
      (a : TacArgs) (th : Given) → a ≡ args.Theorem th →
      ((extra : Hyps) → set.is_subset extra (given_sequent th).hyps ≡ true → AreAllowed extra goal.assumptions (given_sequent th).hyps → IsValid (holds_given th) extra moves (goal ∷ []) left) →
      IsJustified (args_value a) goal step
  by_theorem_among a th is valid =
      subst (λ (b : TacArgs). IsJustified (args_value b) goal step) (sym is)
      (λ extra over.
      subst (λ (ms : List Move). IsValid (holds_given th) extra ms (goal ∷ []) step.goals.items) (sym kept)
      (subst (λ (gs : List GoalValue). IsValid (holds_given th) extra moves (goal ∷ []) gs) (sym leaves) (valid extra over.among over.all)))

  pub by_term_and_theorem :
      (a : TacArgs) (t : Named) (th : Given) → a ≡ args.TermAndTheorem t th →
      ((extra : Hyps) → set.is_subset extra (given_sequent th).hyps ≡ true → AreAllowed extra goal.assumptions (given_sequent th).hyps → IsValid (holds_given th) extra moves (goal ∷ []) left) →
      IsJustified (args_value a) goal step
  by_term_and_theorem a t th is valid =
      subst (λ (b : TacArgs). IsJustified (args_value b) goal step) (sym is)
      (λ extra over.
      valid_under (holds_given th) (suits (args_value (args.TermAndTheorem t th))) extra step.just (goal ∷ []) step.goals.items
      (λ basis suit. (both (holds_term (nameless [] t) basis) (holds_given th basis) suit).1)
      (subst (λ (ms : List Move). IsValid (holds_given th) extra ms (goal ∷ []) step.goals.items) (sym kept)
      (subst (λ (gs : List GoalValue). IsValid (holds_given th) extra moves (goal ∷ []) gs) (sym leaves) (valid extra over.among over.all))))

  pub by_pair : (a : TacArgs) (t u : Named) → a ≡ args.Pair t u → IsValid (holds_term (nameless [] t)) no_hyps moves (goal ∷ []) left → IsJustified (args_value a) goal step
  by_pair a t u is valid =
      subst (λ (b : TacArgs). IsJustified (args_value b) goal step) (sym is)
      (λ extra over.
      valid_under (holds_term (nameless [] t)) (suits (args_value (args.Pair t u))) extra step.just (goal ∷ []) step.goals.items
      (λ basis suit. (both (holds_term (nameless [] t) basis) (holds_term (nameless [] u) basis) suit).0)
      (subst (λ (hs : Hyps). IsValid (holds_term (nameless [] t)) hs step.just (goal ∷ []) step.goals.items) (none_left extra over.among)
      (subst (λ (ms : List Move). IsValid (holds_term (nameless [] t)) no_hyps ms (goal ∷ []) step.goals.items) (sym kept)
      (subst (λ (gs : List GoalValue). IsValid (holds_term (nameless [] t)) no_hyps moves (goal ∷ []) gs) (sym leaves) valid))))
