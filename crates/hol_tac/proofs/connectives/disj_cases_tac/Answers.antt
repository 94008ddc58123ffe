use Rattle.std.specs.Prelude.{codes}
use Rattle.std.proofs.Common.{[], ◌∷◌, sym, ◌∙◌, refl}
use Rattle.hol_terms.specs.Nameless.{nameless}
use Rattle.hol_formulas.specs.Formula.{connective_type}
use Rattle.hol_formulas.proofs.FormulaLaws.{dest_binary_is}
use Rattle.hol_just.specs.Leaving.{assuming}
use Rattle.hol_tac.proofs.Justified.{by_theorem}
use Rattle.hol_tac.proofs.connectives.disj_cases_tac.Goals as goal

pub returns-clause-valid : goal.returns-clause-valid
returns-clause-valid c =
    let p = nameless [] c.in-Some.p.now in
    let q = nameless [] c.in-Some.q.now in
    let left = assuming c.args.goal.now p c.args.goal.now.conclusion in
    let right = assuming c.args.goal.now q c.args.goal.now.conclusion in
    by_theorem c.args.goal.now c.in_ok-step.step c.in_ok-step.step.just (left ∷ right ∷ []) refl c.in_ok-step.ensures.goals c.args.args.now c.in-Theorem.th c.in-Theorem.is
    (λ extra allowed.
    c.in_ok-step.ensures.just extra c.args.goal.now.assumptions p q c.args.goal.now.conclusion
    (sym c.concl.ensures.concl ∙ dest_binary_is (codes "\\/") connective_type (nameless [] c.concl.result.now) (p, q) c.in-Some.ensures.parts) allowed)
