use Rattle.hol_print.proofs.Primes.{from_table}
use Rattle.hol_print.proofs.names.fewest_primes.Goals as goal

pub returns : goal.returns
returns c = from_table c.in_ok-taken.taken.items c.deref.result.now c.args.names.now c.args.base.now c.first_free.result c.in_ok-taken.ensures c.deref.ensures.value c.first_free.ensures.within c.first_free.ensures.all c.first_free.ensures.first
