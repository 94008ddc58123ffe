use Rattle.std.proofs.Common.{◌≡◌, ◌<◌, ℕ, length, get_or, drop, false, ◌||◌}
use Rattle.hol_types.specs.Names.{is_among}
use Rattle.hol_terms.specs.Primes.{with_primes}
use Rattle.hol_print.proofs.names.taken_primes.Given as goal

abbrev pub invariant-loop-name : goal.invariant-loop-name
invariant-loop-name l = record {
  long : length l.taken.items ≡ length l.names;
  says : (k : ℕ) → k < length l.names → is_among l.names (with_primes k l.base) ≡ (get_or l.taken.items k false || is_among (drop l.name-index l.names) (with_primes k l.base));
}
