use Rattle.std.proofs.Common.{sym, ap, ◌∙◌, [], map}
use Rattle.hol_terms.specs.Nameless.{nameless}
use Rattle.hol_terms.proofs.Primes.{primed_nearer}
use Rattle.hol_subst.specs.Variant.{is_free_in}
use Rattle.hol_subst.proofs.Longest.{longest_in, free_short, tried_variable}
use Rattle.hol_subst.proofs.variants.variant.Goals as goal

pub primes-smaller : goal.primes-smaller
primes-smaller c = primed_nearer (longest_in (map (λ t. nameless [] t) c.args.avoid.now)) c.primes.candidate.0 c.in_ok-candidate-2.candidate.0 (free_short (map (λ t. nameless [] t) c.args.avoid.now) c.primes.candidate (sym c.primes-test.ensures)) (ap (λ u. u.0) c.in_ok-candidate-2.ensures)

pub primes-preserved : goal.primes-preserved
primes-preserved c = record {
  same_type = ap (λ u. u.1) c.in_ok-candidate-2.ensures ∙ c.primes.invariant.same_type;
  name = tried_variable (λ u. is_free_in (map (λ t. nameless [] t) c.args.avoid.now) u) c.args.v.now c.primes.candidate c.in_ok-candidate-2.candidate c.primes.invariant.same_type c.primes.invariant.name (sym c.primes-test.ensures) c.in_ok-candidate-2.ensures;
}
