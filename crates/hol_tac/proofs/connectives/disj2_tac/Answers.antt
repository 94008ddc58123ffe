use Rattle.std.proofs.Common.{[], ◌∷◌, refl}
use Rattle.hol_terms.specs.Nameless.{nameless}
use Rattle.hol_kernel.specs.Sequent.{no_hyps}
use Rattle.hol_just.specs.Leaving.{concluding}
use Rattle.hol_tac.proofs.Justified.{by_nothing}
use Rattle.hol_tac.proofs.Valid.{disj2_valid}
use Rattle.hol_tac.proofs.connectives.disj2_tac.Goals as goal

pub returns-clause-valid : goal.returns-clause-valid
returns-clause-valid c =
    by_nothing c.args.goal.now c.in_ok-step.step c.in_ok-step.step.just (concluding c.args.goal.now (nameless [] c.in-Some.q.now) ∷ []) refl c.in_ok-step.ensures.goals c.args.args.now c.in-Nothing.is
    (disj2_valid no_hyps c.args.goal.now (nameless [] c.conclusion.result.now) c.conclusion.ensures.term c.in_ok-step.step.just (nameless [] c.in-Some.p.now) (nameless [] c.in-Some.q.now)
    c.in-Some.ensures.parts c.in_ok-step.ensures.just)
