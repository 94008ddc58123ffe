use Rattle.std.proofs.Common.{sym, subst}
use Rattle.std.specs.FinSet as set
use Rattle.hol_kernel.specs.Extends.{Agree}
use Rattle.hol_stack.specs.Calls.{IsStep}
use Rattle.hol_exec.specs.StateValue.{ProofValue}
use Rattle.hol_exec.proofs.state.proof.Proof.step.Goals as goal

pub apply-requires-clause-joins : goal.apply-requires-clause-joins
apply-requires-clause-joins c = subst (λ (p : ProofValue). Agree p.newest.basis c.args.basis.now) (sym c.self.view_is) c.requires.joins

pub apply-requires-clause-step : goal.apply-requires-clause-step
apply-requires-clause-step c =
    subst (λ (p : ProofValue). IsStep (set.union p.newest.basis c.args.basis.now) c.args.step.now.moves c.args.step.now.goals p.newest.goals) (sym c.self.view_is) c.requires.step
