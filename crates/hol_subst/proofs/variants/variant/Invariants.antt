use Rattle.std.proofs.Common.{◌≡◌, true, [], ◌+◌, ◌-◌, length, map}
use Rattle.hol_terms.specs.Nameless.{nameless}
use Rattle.hol_terms.proofs.Primes.{IsTried}
use Rattle.hol_subst.specs.Variant.{is_free_in}
use Rattle.hol_subst.proofs.Longest.{longest_in}
use Rattle.hol_subst.proofs.variants.variant.Given as goal

abbrev pub invariant-primes : goal.invariant-primes
invariant-primes l = record {
  same_type : l.candidate.1 ≡ l.v.1;
  name : IsTried (λ a. is_free_in (map (λ t. nameless [] t) l.avoid) (a, l.v.1) ≡ true) l.v.0 l.candidate.0;
}

abbrev pub decreases-primes : goal.decreases-primes
decreases-primes l = longest_in (map (λ t. nameless [] t) l.avoid) + 1 - length l.candidate.0
