-- Stripping under way: what it comes to stays, and its moves stay valid.
use Rattle.std.specs.Prelude.{◌≡◌, ◌<◌, ℕ, Bool, List, [], ◌∷◌, Option, Some, None, refl}
use Rattle.std.specs.Option.{option_map}
use Rattle.std.proofs.Common.{sym, ◌∙◌, subst}
use Rattle.hol_kernel.specs.Items.{Items}
use Rattle.hol_kernel.specs.Sequent.{Hyps}
use Rattle.hol_goal.specs.Goal.{GoalValue}
use Rattle.hol_goal.specs.Answer.{starting}
use Rattle.hol_just.specs.Strip.{AvoidedValue, WaitingValue, Leaves, RunsOut, strip}
use Rattle.hol_just.specs.Valid.{IsValid}
use Rattle.hol_just.specs.declared.reason.Move.{Move}
use Rattle.hol_just.specs.declared.tried.Step.{Step}
use Rattle.hol_just.specs.Weights.{all_weights}
use Rattle.hol_steps.specs.Fresh.{AvoidAlike, AreApart}
use Rattle.hol_steps.specs.Parts.{with_pieces}
use Rattle.hol_steps.specs.Progress.{ProgressValue, started, with_next, comes_to, all_goals, Goes}
use Rattle.hol_steps.specs.Stripping.{KeepsValid}
use Rattle.hol_steps.proofs.ProgressLaws.{start_same, end_same, end_goals}

-- turns didn't run out
pub none_told : {X : Type 0} (f : X → List (List ℕ)) (o : Option X) → ((x : X) → o ≡ Some x → ⊥) → None ≡ option_map f o
none_told f None none = refl
none_told f (Some x) none = absurd (none x refl)

pub record IsUnderWay (others : AvoidedValue) (before : List Move) (first : WaitingValue) (turns : ℕ) (p : ProgressValue) : Type 0 where
  pub same : (avoided : AvoidedValue) → AvoidAlike others avoided → comes_to avoided p ≡ strip avoided first (starting turns)
  pub valid :
      (avoided : AvoidedValue) → AvoidAlike others avoided → (suits : Items → Bool) (extra : Hyps) (start : List GoalValue) → AreApart avoided.terms extra →
      IsValid suits extra before start (with_pieces first ∷ []) → IsValid suits extra p.moves start (all_goals p)

module _ (others : AvoidedValue) (before : List Move) (first : WaitingValue) (turns : ℕ) where
  pub begins : (p : ProgressValue) → p ≡ started before first turns → IsUnderWay others before first turns p
  begins p is =
      record {
        same = λ avoided alike. start_same avoided before first turns p is;
        valid = λ avoided alike suits extra start apart v. subst (λ (q : ProgressValue). IsValid suits extra q.moves start (all_goals q)) (sym is) v;
      }

  module _ (old mid new : ProgressValue) (w : WaitingValue) (taken : old ≡ with_next w mid) (out : Option (List (List ℕ))) (goes : (avoided : AvoidedValue) → AvoidAlike others avoided → Goes avoided (with_next w mid) new out) where
    goes_as : (o : Option (List (List ℕ))) → o ≡ out → (avoided : AvoidedValue) → AvoidAlike others avoided → Goes avoided old new o
    goes_as o is avoided alike = subst (λ (p : ProgressValue). Goes avoided p new o) (sym taken) (subst (λ (d : Option (List (List ℕ))). Goes avoided (with_next w mid) new d) (sym is) (goes avoided alike))

    pub goes_on : None ≡ out → IsUnderWay others before first turns old → IsUnderWay others before first turns new
    goes_on is h =
        record {
          same = λ avoided alike. (goes_as None is avoided alike).same ∙ h.same avoided alike;
          valid = λ avoided alike suits extra start apart v. (goes_as None is avoided alike).valid suits extra start apart (h.valid avoided alike suits extra start apart v);
        }

    pub lighter : None ≡ out → all_weights new.waiting < all_weights old.waiting
    lighter is = (goes_as None is others ((λ a. refl), refl)).lighter

    pub runs_out : (tested : List (List ℕ)) → Some tested ≡ out → IsUnderWay others before first turns old → (avoided : AvoidedValue) → AvoidAlike others avoided → strip avoided first (starting turns) ≡ RunsOut tested
    runs_out tested is h avoided alike = sym (h.same avoided alike) ∙ goes_as (Some tested) is avoided alike

  module _ (p : ProgressValue) (h : IsUnderWay others before first turns p) (none : p.waiting ≡ []) (step : Step) (goals : step.goals.items ≡ p.done) where
    pub ends : (left : ℕ) (tested : List (List ℕ)) → left ≡ p.used.turns_left → tested ≡ p.used.tested → (avoided : AvoidedValue) → AvoidAlike others avoided → strip avoided first (starting turns) ≡ Leaves step.goals.items (record { turns_left = left; tested = tested })
    ends left tested same told avoided alike = sym (h.same avoided alike) ∙ end_same avoided p none ∙ (λ i. Leaves (sym goals i) (record { turns_left = sym same i; tested = sym told i }))

    pub ends_valid : step.just ≡ p.moves → (avoided : AvoidedValue) → AvoidAlike others avoided → KeepsValid avoided before first step
    ends_valid moves avoided alike suits extra start apart v =
        subst (λ (ms : List Move). IsValid suits extra ms start step.goals.items) (sym moves)
        (subst (λ (gs : List GoalValue). IsValid suits extra p.moves start gs) (end_goals p none ∙ sym goals) (h.valid avoided alike suits extra start apart v))
