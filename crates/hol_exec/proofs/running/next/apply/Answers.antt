use Rattle.std.proofs.Common.{ℕ, List, sym, ◌∙◌, ap, subst}
use Rattle.hol_theory.specs.Entry.{entry_at}
use Rattle.hol_theory.specs.Key.{theorem_key}
use Rattle.hol_theory.specs.Theory.{items_in}
use Rattle.hol_kernel.specs.Items.{Items, IsSubset}
use Rattle.hol_exec.specs.StateValue.{ProofValue}
use Rattle.hol_exec.specs.OutcomeView.{outcome_of}
use Rattle.hol_exec.proofs.Entries.{begun_within}
use Rattle.hol_exec.proofs.Free.{opens_new, leaves_within, makes_new, makes_following}
use Rattle.hol_exec.proofs.Outcomes.{can_step}
use Rattle.hol_exec.proofs.running.next.apply.Goals as goal

pub begin-requires : goal.begin-requires
begin-requires c = rw c.in-Opens.is at c.change.ensures.valid

pub begin-requires-in-Opens : goal.begin-requires-in-Opens
begin-requires-in-Opens c =
    let opens = opens_new _ _ (c.promise.ensures.theory, c.promise.ensures.free, c.promise.ensures.within) c.requires _ _ _ (sym c.change.ensures.change ∙ ap outcome_of c.in-Opens.is) in
    record {
      free = ap (λ (p : ProofValue). entry_at (theorem_key p.name) c.args.state.now.entries) c.in_ok-proof-in-Opens.ensures
          ∙ ap (λ (n : List ℕ). entry_at (theorem_key n) c.args.state.now.entries) c.as_str.ensures.value
          ∙ opens.0;
      within = begun_within c.args.state.now.entries c.in_ok-proof-in-Opens.proof (ap (λ (p : ProofValue). p.earlier) c.in_ok-proof-in-Opens.ensures)
          (subst (λ (b : Items). IsSubset b (items_in c.args.state.now.entries)) (sym (ap (λ (p : ProofValue). p.newest.basis) c.in_ok-proof-in-Opens.ensures)) opens.1);
    }

pub step-requires-clause-step : goal.step-requires-clause-step
step-requires-clause-step c =
    can_step _ _ (c.promise.ensures.theory, c.promise.ensures.free, c.promise.ensures.within) c.requires _ _ _ _ (sym c.change.ensures.change ∙ ap outcome_of c.in-Leaves.is) (rw c.in-Leaves.is at c.change.ensures.valid)

pub step-requires-clause-within : goal.step-requires-clause-within
step-requires-clause-within c =
    leaves_within _ _ (c.promise.ensures.theory, c.promise.ensures.free, c.promise.ensures.within) c.requires _ _ _ (sym c.change.ensures.change ∙ ap outcome_of c.in-Leaves.is)

pub make-requires-clause-new : goal.make-requires-clause-new
make-requires-clause-new c =
    makes_new _ _ (c.promise.ensures.theory, c.promise.ensures.free, c.promise.ensures.within) c.requires _ (sym c.change.ensures.change ∙ ap outcome_of c.in-Makes.is) (rw c.in-Makes.is at c.change.ensures.valid).1

pub make-requires-clause-follow : goal.make-requires-clause-follow
make-requires-clause-follow c =
    makes_following _ _ (c.promise.ensures.theory, c.promise.ensures.free, c.promise.ensures.within) c.requires _ (sym c.change.ensures.change ∙ ap outcome_of c.in-Makes.is) (rw c.in-Makes.is at c.change.ensures.valid).0
