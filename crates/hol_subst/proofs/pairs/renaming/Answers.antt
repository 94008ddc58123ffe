use Rattle.std.proofs.Common.{sym, ap, ◌∙◌}
use Rattle.hol_subst.specs.Capture.{is_taken}
use Rattle.hol_terms.proofs.Primes.{primed_nearer}
use Rattle.hol_subst.proofs.Longest.{tried_variable}
use Rattle.hol_subst.proofs.Taken.{longest_taken, taken_short}
use Rattle.hol_subst.proofs.pairs.renaming.Goals as goal

pub primes-smaller : goal.primes-smaller
primes-smaller c = primed_nearer (longest_taken c.args.pairs.now c.args.b.now) c.primes.candidate.0 c.in_ok-candidate-2.candidate.0 (taken_short c.args.pairs.now c.args.b.now c.primes.candidate (sym c.primes-test.ensures)) (ap (λ u. u.0) c.in_ok-candidate-2.ensures)

pub primes-preserved : goal.primes-preserved
primes-preserved c = record {
  same_type = ap (λ u. u.1) c.in_ok-candidate-2.ensures ∙ c.primes.invariant.same_type;
  name = tried_variable (λ u. is_taken c.args.pairs.now c.args.b.now u) c.args.v.now c.primes.candidate c.in_ok-candidate-2.candidate c.primes.invariant.same_type c.primes.invariant.name (sym c.primes-test.ensures) c.in_ok-candidate-2.ensures;
}
