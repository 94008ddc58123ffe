use Rattle.std.specs.Prelude.{◌≢◌, []}
use Rattle.std.proofs.Common.{ap, sym, ◌∙◌, subst}
use Rattle.hol_stack.specs.StackValue.{turned}
use Rattle.hol_exec.specs.StateValue.{ProofValue}
use Rattle.hol_exec.proofs.state.proof.Proof.rotate_with.Goals as goal

pub rotate_with-requires-clause-open : goal.rotate_with-requires-clause-open
rotate_with-requires-clause-open c = subst (λ (p : ProofValue). p.newest.goals ≢ []) (sym c.self.view_is) c.requires.open

pub rotate_with-requires-clause-turned : goal.rotate_with-requires-clause-turned
rotate_with-requires-clause-turned c =
    c.requires.next ∙ ap (λ (p : ProofValue). record { goals = turned c.args.times p.newest.goals; basis = p.newest.basis }) (sym c.self.view_is)
