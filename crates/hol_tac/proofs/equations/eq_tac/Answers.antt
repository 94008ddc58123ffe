use Rattle.std.proofs.Common.{[], ◌∷◌, ap, sym, ◌∙◌, refl, Some}
use Rattle.hol_terms.specs.Nameless.{nameless}
use Rattle.hol_formulas.specs.Equation.{bool_type}
use Rattle.hol_formulas.specs.Formula.{implication}
use Rattle.hol_formulas.proofs.TypeTests.{same_type}
use Rattle.hol_kernel.specs.Sequent.{no_hyps}
use Rattle.hol_just.specs.Leaving.{concluding}
use Rattle.hol_tac.proofs.Justified.{by_nothing}
use Rattle.hol_tac.proofs.Valid.{eq_valid}
use Rattle.hol_tac.proofs.equations.eq_tac.Goals as goal

pub eq_step-requires-clause-left : goal.eq_step-requires-clause-left
eq_step-requires-clause-left c =
    c.in-Some.ensures.left ∙ ap Some (same_type c.in-Some.sides.ty.now bool_type (sym c.if-not-is_bool.ensures))

pub eq_step-requires-clause-right : goal.eq_step-requires-clause-right
eq_step-requires-clause-right c =
    c.in-Some.ensures.right ∙ ap Some (same_type c.in-Some.sides.ty.now bool_type (sym c.if-not-is_bool.ensures))

pub returns-clause-valid : goal.returns-clause-valid
returns-clause-valid c =
    let p = nameless [] c.in-Some.sides.left.now in
    let q = nameless [] c.in-Some.sides.right.now in
    by_nothing c.args.goal.now c.in_ok-step.step c.in_ok-step.step.just (concluding c.args.goal.now (implication p q) ∷ concluding c.args.goal.now (implication q p) ∷ []) refl
    c.in_ok-step.ensures.goals c.args.args.now c.in-Nothing.is
    (eq_valid no_hyps c.args.goal.now (nameless [] c.conclusion.result.now) c.conclusion.ensures.term c.in_ok-step.step.just (record { sides_type = c.in-Some.sides.ty.now; left = p; right = q })
    c.in-Some.ensures.sides (sym c.if-not-is_bool.ensures) c.in_ok-step.ensures.just)
