use Rattle.std.proofs.Common.{[], map, length}
use Rattle.hol_terms.specs.Nameless.{nameless}
use Rattle.hol_subst.specs.FreeName.{is_taken}
use Rattle.std.proofs.Common.{◌≡◌, false}
use Rattle.hol_just.proofs.FreshLaws.{constants_from}
use Rattle.hol_steps.specs.Fresh.{HasPrimes}
use Rattle.hol_steps.proofs.FreshSearch.{IsAtAll}
use Rattle.hol_steps.proofs.fresh.fresh_name.Given as goal

abbrev pub invariant-primes : goal.invariant-primes
invariant-primes l = record {
  at : IsAtAll l.names (map (nameless []) l.avoid) l.base l.name l.tested.items;
  absent : is_taken (map (nameless []) l.avoid) l.name ≡ false;
  primed : HasPrimes l.base l.name;
}

abbrev pub decreases-primes : goal.decreases-primes
decreases-primes l = constants_from l.names (length l.name)
