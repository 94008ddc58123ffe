use Rattle.std.specs.Prelude.{◌++◌, drop}
use Rattle.std.proofs.Common.{ap, sym, ◌∙◌, subst}
use Rattle.hol_kernel.specs.Items.{IsSubset}
use Rattle.hol_kernel.proofs.Subsets.{subset_left}
use Rattle.hol_stack.specs.StackValue.{StepValue}
use Rattle.hol_stack.specs.Calls.{IsStep}
use Rattle.hol_exec.specs.StateValue.{ProofValue}
use Rattle.hol_exec.proofs.state.proof.Proof.step_with.Goals as goal

pub follow_with-requires-clause-within : goal.follow_with-requires-clause-within
follow_with-requires-clause-within c =
    let own = c.args.self.now.newest.basis in
    subst (λ (p : ProofValue). IsSubset p.newest.basis c.args.next.now.basis) (sym c.self.view_is)
    (subst (λ (n : StepValue). IsSubset own n.basis) (sym c.requires.next) (subset_left own c.args.basis.now))

pub follow_with-requires-clause-step : goal.follow_with-requires-clause-step
follow_with-requires-clause-step c =
    subst (λ (p : ProofValue). IsStep c.args.next.now.basis c.args.step.now.moves c.args.step.now.goals p.newest.goals) (sym c.self.view_is)
    (subst (λ (n : StepValue). IsStep n.basis c.args.step.now.moves c.args.step.now.goals c.args.self.now.newest.goals) (sym c.requires.next) c.requires.step.step)

pub follow_with-requires-clause-goals : goal.follow_with-requires-clause-goals
follow_with-requires-clause-goals c =
    ap (λ (n : StepValue). n.goals) c.requires.next ∙ ap (λ (p : ProofValue). c.args.step.now.goals ++ drop 1 p.newest.goals) (sym c.self.view_is)
