use Rattle.std.proofs.Common.{◌≡◌, ℕ, [], drop, map, get_or, false, ◌||◌}
use Rattle.hol_terms.specs.Nameless.{nameless}
use Rattle.hol_terms.specs.Primes.{with_primes}
use Rattle.hol_subst.specs.FreeName.{is_taken}
use Rattle.hol_subst.proofs.names.taken_primes.Given as goal

abbrev pub invariant-loop-term : goal.invariant-loop-term
invariant-loop-term l = (k : ℕ) → is_taken (map (λ t. nameless [] t) l.avoid) (with_primes k l.base) ≡ (get_or l.taken.items k false || is_taken (map (λ t. nameless [] t) (drop l.term-index l.avoid)) (with_primes k l.base))
