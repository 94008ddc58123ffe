use Rattle.std.proofs.Common.{refl}
use Rattle.hol_kernel.specs.Sequent.{no_hyps}
use Rattle.hol_tac.proofs.Justified.{by_nothing}
use Rattle.hol_tac.proofs.ApplicationLaws.{functions_of_like, ap_thm_valid}
use Rattle.hol_tac.proofs.applications.ap_thm_tac.Goals as goal

pub ap_thm_step-requires : goal.ap_thm_step-requires
ap_thm_step-requires c =
    let parts = c.in-Some.parts in
    functions_of_like c.args.goal.now parts.function.now parts.argument.now parts.other_function.now parts.other_argument.now c.in-Some.ensures (c.if-not-alpha_equivalent.ensures.equal.0 refl)

pub returns-clause-valid : goal.returns-clause-valid
returns-clause-valid c =
    let parts = c.in-Some.parts in
    let step = c.in_ok-step.step in
    by_nothing c.args.goal.now step step.just step.goals.items refl refl c.args.args.now c.in-Nothing.is
    (ap_thm_valid c.args.goal.now parts.function.now parts.argument.now parts.other_function.now parts.other_argument.now c.in-Some.ensures (c.if-not-alpha_equivalent.ensures.equal.0 refl) no_hyps step.just step.goals.items
    c.in_ok-step.ensures.goals c.in_ok-step.ensures.just)
