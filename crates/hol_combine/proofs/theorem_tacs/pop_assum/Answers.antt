use Rattle.std.proofs.Common.{◌≡◌, Some, [], map, ◌∙◌, subst}
use Rattle.std.proofs.lemmas.List.Elements.{All-head}
use Rattle.hol_terms.specs.Named.{named_type}
use Rattle.hol_terms.specs.Nameless.{nameless}
use Rattle.hol_formulas.specs.Equation.{bool_type}
use Rattle.hol_goal.specs.Formulas.{AreFormulas}
use Rattle.hol_goal.specs.Goal.{goal_of}
use Rattle.hol_just.specs.Justifies.{goal_at}
use Rattle.hol_combine.specs.ExprView.{theorem_tac_value}
use Rattle.hol_combine.proofs.Handed.{pop_valid}
use Rattle.hol_combine.proofs.theorem_tacs.pop_assum.Goals as goal

pub hand-requires-clause-formula : goal.hand-requires-clause-formula
hand-requires-clause-formula g c = All-head (λ q. named_type q ≡ Some bool_type) c.in-Some.p.now c.in-Some.older.now (subst AreFormulas c.in-Some.ensures.cases.0 c.assumptions.ensures.typed)

pub returns-clause-valid : goal.returns-clause-valid
returns-clause-valid g c =
    pop_valid (theorem_tac_value c.args.tac.now) c.args.goal.now c.assumptions.result.now c.in-Some.older.now c.in-Some.p.now c.in_ok-popped.popped c.hand.result c.in-Some.ensures.cases.0 c.assumptions.ensures.terms
    (c.in_ok-popped.ensures
    ∙ (λ i. goal_of (c.in_ok-copies.ensures i) (c.in_ok-copy.ensures i))
    ∙ (λ i. goal_at (map (nameless []) c.in-Some.older.now) (c.conclusion.ensures.term i)))
    c.hand.ensures.valid
