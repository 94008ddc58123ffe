-- What ends at once: a goal that is left as it is, and refusals of tacticals.
use Rattle.std.specs.Prelude.{◌≡◌, ◌≤◌, ℕ, suc, Bool, true, false, nat_eq, cond, codes, List, [], ◌∷◌, length, refl}
use Rattle.std.proofs.Common.{ap, sym, ◌∙◌, subst}
use Rattle.std.proofs.lemmas.Bool.{eq-eqb, eqb-true}
use Rattle.hol_kernel.specs.Items.{Items}
use Rattle.hol_kernel.specs.Sequent.{no_hyps}
use Rattle.hol_goal.specs.Goal.{GoalValue}
use Rattle.hol_goal.specs.Answer.{UsedValue}
use Rattle.hol_just.specs.Valid.{IsValid}
use Rattle.hol_just.specs.declared.reason.Move.{Move}
use Rattle.hol_just.proofs.Validity.{valid_none}
use Rattle.hol_combine.specs.ExprValue.{ExprValue, exprs}
use Rattle.hol_combine.specs.Runs.{KnownValue, RunValue, Refuses, DoesNotFit, count, as_many, run_each}
use Rattle.hol_combine.specs.More.{run_list}
use Rattle.hol_combine.specs.RunView.{IsError, IsValidRun}
use Rattle.hol_combine.specs.Going.{HasAtMost, IsKept, IsRefusal}
use Rattle.hol_combine.specs.declared.ran.Ran.{Ran}
use Rattle.hol_combine.specs.declared.ran.RunError.{RunError}
use Rattle.hol_combine.specs.declared.ran.RunError.TheVariants as error

-- ---- a goal that was left as it is

pub kept_valid : (suits : Items → Bool) (goal : GoalValue) (used : UsedValue) (r : Ran) → IsKept goal used r → IsValidRun suits (goal ∷ []) r
kept_valid suits goal used r k =
    subst (λ (moves : List Move). IsValid suits no_hyps moves (goal ∷ []) r.step.goals.items) (sym k.just)
    (subst (λ (goals : List GoalValue). IsValid suits no_hyps [] (goal ∷ []) goals) (sym k.goals) (valid_none suits no_hyps (goal ∷ [])))

-- ---- refusals

pub refusal_is : (run : RunValue) (name : List ℕ) (left : UsedValue) (e : RunError) → run ≡ Refuses (DoesNotFit name) left → IsRefusal name left e → IsError run e
refusal_is run name left (error.Refused why n tested) is r = is ∙ (λ i. Refuses (sym r.0 i) (sym r.1 i))
refusal_is run name left (error.TurnLimit tested) is r = absurd r
refusal_is run name left (error.LargeGoal tested) is r = absurd r
refusal_is run name left error.Memory is r = tt

-- a refusal's used
pub refused_left : (n : ℕ) (e : RunError) (why : _) (left : ℕ) (tested : _) → e ≡ error.Refused why left tested → HasAtMost n e → left ≤ n
refused_left n e why left tested is h = subst (HasAtMost n) is h

-- ---- as many expressions as goals

count_is : (ts : List ExprValue) → count (exprs ts) ≡ length ts
count_is [] = refl
count_is (t ∷ ts) = ap suc (count_is ts)

nat_same : (n : ℕ) → nat_eq n n ≡ true
nat_same n = eq-eqb n n refl

module _ (known : KnownValue) (ts : List ExprValue) (goals : List GoalValue) (left : UsedValue) where
  pub list_as_many : length ts ≡ length goals → run_list known (exprs ts) goals left ≡ run_each known (exprs ts) goals left
  list_as_many e =
      ap (λ n. as_many n goals left (run_each known (exprs ts) goals left)) (count_is ts ∙ e)
      ∙ ap (λ b. cond b (run_each known (exprs ts) goals left) (Refuses (DoesNotFit (codes "THENL")) left)) (nat_same (length goals))

  pub list_refused : (length ts ≡ length goals → ⊥) → run_list known (exprs ts) goals left ≡ Refuses (DoesNotFit (codes "THENL")) left
  list_refused d = ap (λ n. as_many n goals left (run_each known (exprs ts) goals left)) (count_is ts) ∙ by (nat_eq (length ts) (length goals)) refl
    where
      by : (b : Bool) → nat_eq (length ts) (length goals) ≡ b → cond (nat_eq (length ts) (length goals)) (run_each known (exprs ts) goals left) (Refuses (DoesNotFit (codes "THENL")) left) ≡ Refuses (DoesNotFit (codes "THENL")) left
      by true h = absurd (d (eqb-true (length ts) (length goals) h))
      by false h = ap (λ b. cond b (run_each known (exprs ts) goals left) (Refuses (DoesNotFit (codes "THENL")) left)) h
