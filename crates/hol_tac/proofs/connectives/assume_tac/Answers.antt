use Rattle.std.proofs.Common.{[], ◌∷◌, refl}
use Rattle.hol_kernel.specs.Given.{given_sequent}
use Rattle.hol_just.specs.Leaving.{assuming}
use Rattle.hol_tac.proofs.Justified.{by_theorem}
use Rattle.hol_tac.proofs.connectives.assume_tac.Goals as goal

pub returns-clause-valid : goal.returns-clause-valid
returns-clause-valid c =
    by_theorem c.args.goal.now c.in_ok-step.step c.in_ok-step.step.just (assuming c.args.goal.now (given_sequent c.in-Theorem.th).concl c.args.goal.now.conclusion ∷ []) refl
    c.in_ok-step.ensures.goals c.args.args.now c.in-Theorem.th c.in-Theorem.is
    (λ extra allowed. c.in_ok-step.ensures.just extra c.args.goal.now.assumptions c.args.goal.now.conclusion allowed)
