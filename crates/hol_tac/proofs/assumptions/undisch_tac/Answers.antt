use Rattle.std.proofs.Common.{◌≡◌, [], ◌∷◌, map, refl, Some, rules}
use Rattle.hol_terms.specs.Nameless.{nameless}
use Rattle.hol_formulas.specs.Formula.{implication}
use Rattle.hol_just.specs.ConnectiveTacs.{taken_out}
use Rattle.hol_just.specs.Justifies.{goal_at}
use Rattle.hol_tac.proofs.Justified.{by_term}
use Rattle.hol_tac.proofs.AssumptionLaws.{undisch_valid}
use Rattle.hol_tac.proofs.assumptions.undisch_tac.Goals as goal

pub returns-clause-valid : goal.returns-clause-valid
returns-clause-valid c =
    let step = c.in_ok-step.step in
    let t = nameless [] c.in-Term.t in
    let p = nameless [] c.in-Some.p in
    let rest = map (nameless []) c.in-Some.rest.items in
    let taken : taken_out t (map (nameless []) c.assumptions.result.now) ≡ Some (p, rest) = search rules in
    by_term c.args.goal.now step step.just (goal_at rest (implication p c.args.goal.now.conclusion) ∷ []) refl c.in_ok-step.ensures.goals c.args.args.now c.in-Term.t c.in-Term.is
    (undisch_valid c.args.goal.now step.just t p (map (nameless []) c.assumptions.result.now) rest c.assumptions.ensures.terms taken c.in_ok-step.ensures.just)
