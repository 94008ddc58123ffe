use Rattle.std.proofs.Common.{◌≡◌, string_bytes}
use Rattle.hol_terms.specs.Primes.{with_primes}
use Rattle.hol_print.proofs.primed_name.put_primes.Given as goal

abbrev pub invariant-loop-i : goal.invariant-loop-i
invariant-loop-i l = string_bytes l.out ≡ with_primes l._i (string_bytes l.fn.out)
