use Rattle.std.proofs.Common.{◌≡◌, string_bytes}
use Rattle.hol_terms.specs.Primes.{with_primes}
use Rattle.hol_subst.proofs.names.with_primes.Given as goal

abbrev pub invariant-loop-i : goal.invariant-loop-i
invariant-loop-i l = string_bytes l.text ≡ with_primes l._i l.base
