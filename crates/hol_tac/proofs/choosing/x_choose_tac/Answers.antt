use Rattle.std.proofs.Common.{[], ◌∷◌, ap, sym, ◌∙◌, refl}
use Rattle.hol_terms.specs.Named.{var}
use Rattle.hol_terms.specs.View.{named_of}
use Rattle.hol_terms.specs.Nameless.{free, nameless, base_of}
use Rattle.hol_formulas.specs.Formula.{Abstraction}
use Rattle.hol_goal.specs.declared.tac_args.TacArgs.TheVariants as args
use Rattle.hol_just.specs.QuantifierTacs.{assuming_of}
use Rattle.hol_tac.proofs.Justified.{by_term_and_theorem}
use Rattle.hol_tac.proofs.ChoosingLaws.{chosen_valid}
use Rattle.hol_tac.proofs.choosing.x_choose_tac.Goals as goal

pub returns-clause-valid : goal.returns-clause-valid
returns-clause-valid c =
    let x = c.in-Some.x.now in
    let v = c.in-Var.v in
    let th = c.in-TermAndTheorem.th in
    let property : Abstraction = record { base = base_of x.0; domain = x.1; body = nameless (x ∷ []) c.in-Some.p.now } in
    by_term_and_theorem c.args.goal.now c.in_ok-step.step c.in_ok-step.step.just (assuming_of c.args.goal.now (free v) property ∷ []) refl c.in_ok-step.ensures.goals c.args.args.now (var v) th
    (c.in-TermAndTheorem.is ∙ ap (λ t. args.TermAndTheorem t th) (sym c.node.ensures ∙ ap named_of c.in-Var.is))
    (chosen_valid th c.args.goal.now (nameless [] c.concl.result.now) property v c.in_ok-step.step.just c.concl.ensures.concl c.in-Some.ensures.parts
    (sym c.ty.ensures ∙ c.if-not-same.ensures.equal.0 refl ∙ c.ty-2.ensures) (sym c.if-is_free_by.ensures) c.in_ok-step.ensures.just)
