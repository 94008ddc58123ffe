use Rattle.std.proofs.Common.{[], ◌∷◌, ap, sym, ◌∙◌, refl}
use Rattle.hol_terms.specs.Named.{var}
use Rattle.hol_terms.specs.View.{named_of}
use Rattle.hol_terms.specs.Nameless.{free, nameless, base_of}
use Rattle.hol_subst.specs.Closing.{open_with}
use Rattle.hol_just.specs.Leaving.{concluding}
use Rattle.hol_goal.specs.declared.tac_args.TacArgs.TheVariants as args
use Rattle.hol_tac.proofs.Justified.{by_term}
use Rattle.hol_tac.proofs.QuantifierLaws.{x_gen_valid}
use Rattle.hol_tac.proofs.quantifiers.x_gen_tac.Goals as goal

pub returns-clause-valid : goal.returns-clause-valid
returns-clause-valid c =
    let x = c.in-Some.x.now in
    let v = c.in-Var.v in
    let body = nameless (x ∷ []) c.in-Some.p.now in
    by_term c.args.goal.now c.in_ok-step.step c.in_ok-step.step.just (concluding c.args.goal.now (open_with (free v) 0 body) ∷ []) refl c.in_ok-step.ensures.goals c.args.args.now (var v)
    (c.in-Term.is ∙ ap args.Term (sym c.node.ensures ∙ ap named_of c.in-Var.is))
    (x_gen_valid c.args.goal.now (nameless [] c.conclusion.result.now) c.conclusion.ensures.term c.in_ok-step.step.just (record { base = base_of x.0; domain = x.1; body = body }) v
    c.in-Some.ensures.parts (sym c.ty.ensures ∙ c.if-not-same.ensures.equal.0 refl ∙ c.ty-2.ensures) (sym c.if-is_free_in_goal.ensures) c.in_ok-step.ensures.just)
