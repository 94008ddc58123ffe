-- Outcomes, from what the steps of a command found.
use Rattle.std.specs.Prelude.{◌≡◌, ℕ, Bool, true, false, List, Option, Some, None, Result, Ok, Err, IfOk}
use Rattle.hol_terms.specs.Nameless.{Nameless}
use Rattle.hol_notation_terms.specs.Text.{QuotationText}
use Rattle.hol_notation_tactics.specs.Text.{TacText}
use Rattle.hol_exec.specs.Setup.{SetupValue}
use Rattle.hol_exec.specs.Signature.{signature_of}
use Rattle.hol_resolve.specs.Reading.{ReadingValue, IsTermReadAs}
use Rattle.hol_exec.specs.ReadsValue.{ReadsValue}
use Rattle.hol_exec.specs.Expr.{ResolutionValue, IsResolution}
use Rattle.hol_exec.specs.OutcomeValue.{OutcomeValue}
use Rattle.hol_exec.specs.Naming.{taken_tac, names_resolved, IsNaming}
use Rattle.hol_theory.specs.Key.{KeyValue}
use Rattle.hol_exec.specs.Local.{LocalValue, given_by, opens_read, IsOpening, refused_outcome, stopped_outcome, run_outcome, resolved_outcome, IsApplying}
use Rattle.hol_kernel.specs.Items.{Items}
use Rattle.hol_goal.specs.Goal.{GoalValue}
use Rattle.hol_combine.specs.Runs.{RunValue, TurnLimit, LargeGoal}
use Rattle.hol_combine.specs.Runs as runs
use Rattle.hol_combine.specs.RunView.{refusal_value, using, IsError}
use Rattle.hol_combine.specs.declared.ran.Refusal.{Refusal}
use Rattle.hol_combine.specs.declared.ran.RunError.{RunError}
use Rattle.hol_combine.specs.declared.ran.RunError.TheVariants as error
use Rattle.std.proofs.Common.{ap, sym, ◌∙◌, subst}

pub opens_by : (in_proof : Bool) (name : List ℕ) (q : QuotationText) (reads : ReadsValue) (reading : ReadingValue Nameless) (outcome : OutcomeValue) →
    in_proof ≡ false → IsTermReadAs (signature_of reads.cited) q.term reading → outcome ≡ opens_read name q.place reads reading → IsOpening in_proof name q reads outcome
opens_by in_proof name q reads reading outcome e h f =
    rw e (reading, h, f)

pub applies_by : (in_proof : Bool) (setup : SetupValue) (names : List (List ℕ)) (tactic : TacText) (reads : ReadsValue) (resolution : ResolutionValue) (given : LocalValue) →
    in_proof ≡ true → IsResolution setup None None tactic reads.cited resolution → given ≡ resolved_outcome setup names reads.goal resolution → IsApplying in_proof setup names tactic reads given
applies_by in_proof setup names tactic reads resolution given e h f = rw e (resolution, h, f)

pub names_by : (in_proof : Bool) (setup : SetupValue) (name : List ℕ) (tactic : TacText) (reads : ReadsValue) (taken : Option KeyValue) (resolution : ResolutionValue) (outcome : OutcomeValue) →
    in_proof ≡ false → taken ≡ taken_tac setup name reads → IsResolution setup (Some name) taken tactic reads.cited resolution → outcome ≡ names_resolved setup name tactic reads.cited resolution → IsNaming in_proof setup name tactic reads outcome
names_by in_proof setup name tactic reads taken resolution outcome e is h f =
    rw e (resolution, subst (λ (k : Option KeyValue). IsResolution setup (Some name) k tactic reads.cited resolution) is h, f)

-- the same where what is read is of a case
pub opens_at : (in_proof : Bool) (name : List ℕ) (q : QuotationText) (reads : ReadsValue) (read reading : ReadingValue Nameless) (outcome : OutcomeValue) →
    in_proof ≡ false → IsTermReadAs (signature_of reads.cited) q.term read → read ≡ reading → outcome ≡ opens_read name q.place reads reading → IsOpening in_proof name q reads outcome
opens_at in_proof name q reads read reading outcome e h g f = opens_by in_proof name q reads reading outcome e (rw g at h) f

-- ---- what is known of a result that is passed on
pub if_ok : {A E : Type 0} (r : Result A E) (P Q : A → Type 0) → ((x : A) → P x → Q x) → IfOk r P → IfOk r Q
if_ok (Ok x) P Q f h = f x h
if_ok (Err e) P Q f h = tt

-- ---- what a run ends with that left no goals

module _ (names : List (List ℕ)) (goal : GoalValue) (basis : Items) (run : RunValue) (e : RunError) where
  pub refused_as : (why : Refusal) (left : ℕ) (tested : _) (o : OutcomeValue) → e ≡ error.Refused why left tested → o ≡ refused_outcome (refusal_value why) → IsError run e → given_by names o tested.items ≡ run_outcome names goal basis run
  refused_as why left tested o is told h =
      let ends : run ≡ runs.Refuses (refusal_value why) (using left tested.items) = subst (IsError run) is h in
      ap (λ (x : OutcomeValue). given_by names x tested.items) told ∙ sym (ap (run_outcome names goal basis) ends)

  pub out_of_turns_as : (tested : _) (o : OutcomeValue) → e ≡ error.TurnLimit tested → o ≡ stopped_outcome TurnLimit → IsError run e → given_by names o tested.items ≡ run_outcome names goal basis run
  out_of_turns_as tested o is told h =
      let ends : run ≡ runs.Stops TurnLimit tested.items = subst (IsError run) is h in
      ap (λ (x : OutcomeValue). given_by names x tested.items) told ∙ sym (ap (run_outcome names goal basis) ends)

  pub large_as : (tested : _) (o : OutcomeValue) → e ≡ error.LargeGoal tested → o ≡ stopped_outcome LargeGoal → IsError run e → given_by names o tested.items ≡ run_outcome names goal basis run
  large_as tested o is told h =
      let ends : run ≡ runs.Stops LargeGoal tested.items = subst (IsError run) is h in
      ap (λ (x : OutcomeValue). given_by names x tested.items) told ∙ sym (ap (run_outcome names goal basis) ends)
