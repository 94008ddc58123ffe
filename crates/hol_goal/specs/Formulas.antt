-- What the code asks of the terms of a goal. Only its clauses speak of it.
use Rattle.std.specs.Prelude.{◌≡◌, List, Some, All}
use Rattle.hol_terms.specs.Named.{Named, named_type}
use Rattle.hol_formulas.specs.Equation.{bool_type}

-- each of the terms is of type bool
abbrev pub AreFormulas : List Named → Type 0
AreFormulas terms = All (λ p. named_type p ≡ Some bool_type) terms
