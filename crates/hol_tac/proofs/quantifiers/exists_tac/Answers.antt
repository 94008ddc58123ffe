use Rattle.std.proofs.Common.{[], ◌∷◌, ap, ◌∙◌, refl, Some}
use Rattle.hol_terms.specs.Nameless.{nameless}
use Rattle.hol_terms.specs.Nameless.{base_of}
use Rattle.hol_subst.specs.Closing.{open_with}
use Rattle.hol_just.specs.Leaving.{concluding}
use Rattle.hol_tac.proofs.Justified.{by_term}
use Rattle.hol_tac.proofs.QuantifierLaws.{exists_valid}
use Rattle.hol_tac.proofs.quantifiers.exists_tac.Goals as goal

pub returns-clause-valid : goal.returns-clause-valid
returns-clause-valid c =
    let x = c.in-Some.x.now in
    let body = nameless (x ∷ []) c.in-Some.p.now in
    let t = nameless [] c.in-Term.t in
    by_term c.args.goal.now c.in_ok-step.step c.in_ok-step.step.just (concluding c.args.goal.now (open_with t 0 body) ∷ []) refl c.in_ok-step.ensures.goals c.args.args.now c.in-Term.t c.in-Term.is
    (exists_valid c.args.goal.now (nameless [] c.conclusion.result.now) c.conclusion.ensures.term c.in_ok-step.step.just (record { base = base_of x.0; domain = x.1; body = body }) t
    c.in-Some.ensures.parts (c.type_of.ensures.nameless ∙ ap Some (c.if-not-same.ensures.equal.0 refl ∙ c.ty.ensures)) c.in_ok-step.ensures.just)
