use Rattle.std.proofs.Common.{◌≡◌, true, ◌+◌, ◌-◌, length}
use Rattle.hol_terms.proofs.Primes.{IsTried}
use Rattle.hol_subst.specs.Capture.{is_taken}
use Rattle.hol_subst.proofs.Taken.{longest_taken}
use Rattle.hol_subst.proofs.pairs.renaming.Given as goal

abbrev pub invariant-primes : goal.invariant-primes
invariant-primes l = record {
  same_type : l.candidate.1 ≡ l.v.1;
  name : IsTried (λ a. is_taken l.pairs l.b (a, l.v.1) ≡ true) l.v.0 l.candidate.0;
}

abbrev pub decreases-primes : goal.decreases-primes
decreases-primes l = longest_taken l.pairs l.b + 1 - length l.candidate.0
