use Rattle.std.proofs.Common.{ap, sym, ◌∙◌, subst, []}
use Rattle.hol_terms.specs.Nameless.{nameless}
use Rattle.hol_kernel.specs.Given.{given_of}
use Rattle.hol_match.proofs.Formulas.{IsFormula, theorem_formula, assumed_formula}
use Rattle.hol_match.proofs.source.conclusion_typed.Goals as goal

pub returns-in-Theorem : goal.returns-in-Theorem
returns-in-Theorem c = subst IsFormula (ap given_of (sym c.in-Theorem.is) ∙ c.node.ensures.value) (theorem_formula c.in-Theorem.theorem c.well_typed.ensures)

pub returns-in-Assumed : goal.returns-in-Assumed
returns-in-Assumed c = subst IsFormula (ap given_of (sym c.in-Assumed.is) ∙ c.node.ensures.value) (assumed_formula (nameless [] c.in-Assumed.field-0))
