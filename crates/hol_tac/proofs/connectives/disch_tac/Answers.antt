use Rattle.std.proofs.Common.{[], ◌∷◌, refl}
use Rattle.hol_terms.specs.Nameless.{nameless}
use Rattle.hol_formulas.specs.Formula.{falsity}
use Rattle.hol_kernel.specs.Sequent.{no_hyps}
use Rattle.hol_just.specs.Leaving.{assuming}
use Rattle.hol_tac.proofs.Justified.{by_nothing}
use Rattle.hol_tac.proofs.Valid.{disch_valid, disch_neg_valid}
use Rattle.hol_tac.proofs.connectives.disch_tac.Goals as goal

pub returns-in-Some-clause-valid : goal.returns-in-Some-clause-valid
returns-in-Some-clause-valid c =
    let p = nameless [] c.in-Some.p.now in
    let q = nameless [] c.in-Some.q.now in
    by_nothing c.args.goal.now c.in_ok-step.step c.in_ok-step.step.just (assuming c.args.goal.now p q ∷ []) refl c.in_ok-step.ensures.goals c.args.args.now c.in-Nothing.is
    (disch_valid no_hyps c.args.goal.now (nameless [] c.conclusion.result.now) c.conclusion.ensures.term c.in_ok-step.step.just p q c.in-Some.ensures.parts c.in_ok-step.ensures.just)

pub returns-clause-valid : goal.returns-clause-valid
returns-clause-valid c =
    let p = nameless [] c.in-Some-dest_neg.p.now in
    by_nothing c.args.goal.now c.in_ok-step-2.step c.in_ok-step-2.step.just (assuming c.args.goal.now p falsity ∷ []) refl c.in_ok-step-2.ensures.goals c.args.args.now c.in-Nothing.is
    (disch_neg_valid no_hyps c.args.goal.now (nameless [] c.conclusion-2.result.now) c.conclusion-2.ensures.term c.in_ok-step-2.step.just p c.in-Some-dest_neg.ensures.part c.in_ok-step-2.ensures.just)
