use Rattle.hol_print.proofs.Primes.{unmarked_past}
use Rattle.hol_print.proofs.names.mark.Goals as goal

pub returns-else-primes-taken-clause-says : goal.returns-else-primes-taken-clause-says
returns-else-primes-taken-clause-says c k h = unmarked_past c.args.taken.now c.in-Some.primes k c.args.base.now c.args.name.now c.in-Some.ensures c.if-primes-taken.false h
