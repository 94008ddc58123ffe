use Rattle.std.proofs.Common.{◌≡◌, [], drop, map}
use Rattle.hol_terms.specs.Nameless.{nameless}
use Rattle.hol_match.specs.Fixed.{fixed_names}
use Rattle.hol_match.proofs.fixed.names_of.Given as goal

abbrev pub invariant-loop-t : goal.invariant-loop-t
invariant-loop-t l = fixed_names [] (map (λ t. nameless [] t) l.terms) ≡ fixed_names l.names.items (map (λ t. nameless [] t) (drop l.t-index l.terms))
