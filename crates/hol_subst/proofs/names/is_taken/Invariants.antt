use Rattle.std.proofs.Common.{◌≡◌, [], drop, map}
use Rattle.hol_terms.specs.Nameless.{nameless}
use Rattle.hol_subst.specs.FreeName.{is_taken}
use Rattle.hol_subst.proofs.names.is_taken.Given as goal

abbrev pub invariant-loop-term : goal.invariant-loop-term
invariant-loop-term l = is_taken (map (λ t. nameless [] t) l.avoid) l.name ≡ is_taken (map (λ t. nameless [] t) (drop l.term-index l.avoid)) l.name
