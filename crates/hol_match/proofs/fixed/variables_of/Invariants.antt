use Rattle.std.proofs.Common.{◌≡◌, [], drop, map}
use Rattle.hol_terms.specs.Nameless.{nameless}
use Rattle.hol_match.specs.Fixed.{fixed_variables}
use Rattle.hol_match.proofs.fixed.variables_of.Given as goal

abbrev pub invariant-loop-t : goal.invariant-loop-t
invariant-loop-t l = fixed_variables [] (map (λ t. nameless [] t) l.terms) ≡ fixed_variables l.variables.items (map (λ t. nameless [] t) (drop l.t-index l.terms))
