use Rattle.std.proofs.Common.{ap, sym, ◌∙◌, refl, Some}
use Rattle.hol_kernel.specs.Sequent.{no_hyps}
use Rattle.hol_tac.proofs.Justified.{by_nothing}
use Rattle.hol_tac.proofs.ApplicationLaws.{same_arguments, mk_comb_valid}
use Rattle.hol_tac.proofs.applications.mk_comb_tac.Goals as goal

pub mk_comb_step-requires-clause-functions : goal.mk_comb_step-requires-clause-functions
mk_comb_step-requires-clause-functions c = c.type_of.ensures.named ∙ ap Some (c.if-not-same.ensures.equal.0 refl) ∙ sym c.type_of-2.ensures.named

pub mk_comb_step-requires-clause-arguments : goal.mk_comb_step-requires-clause-arguments
mk_comb_step-requires-clause-arguments c =
    let parts = c.in-Some.parts in
    same_arguments c.args.goal.now parts.function.now parts.argument.now parts.other_function.now parts.other_argument.now c.in-Some.ensures
    (c.type_of.ensures.named ∙ ap Some (c.if-not-same.ensures.equal.0 refl) ∙ sym c.type_of-2.ensures.named)

pub returns-clause-valid : goal.returns-clause-valid
returns-clause-valid c =
    let parts = c.in-Some.parts in
    let step = c.in_ok-step.step in
    by_nothing c.args.goal.now step step.just step.goals.items refl refl c.args.args.now c.in-Nothing.is
    (mk_comb_valid c.args.goal.now parts.function.now parts.argument.now parts.other_function.now parts.other_argument.now c.in-Some.ensures
    (c.type_of.ensures.named ∙ ap Some (c.if-not-same.ensures.equal.0 refl) ∙ sym c.type_of-2.ensures.named) no_hyps step.just step.goals.items c.in_ok-step.ensures.goals c.in_ok-step.ensures.just)
