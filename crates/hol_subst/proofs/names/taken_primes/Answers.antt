use Rattle.hol_terms.specs.Primes.{with_primes}
use Rattle.hol_subst.proofs.Marks.{marks_on}
use Rattle.hol_subst.proofs.NameFilters.{primed}
use Rattle.hol_subst.proofs.names.taken_primes.Goals as goal

pub loop-term-preserved : goal.loop-term-preserved
loop-term-preserved c k = marks_on c.args.avoid.now c.loop-term.term-index c.term-item.result (with_primes k c.args.base.now) _ _ _ c.loop-term-test.true c.term-item.is (c.loop-term.invariant k) (c.in_ok-mark_names.ensures k)

pub mark_names-requires : goal.mark_names-requires
mark_names-requires c = primed c.of_primed-primed.result.bits c.args.base.now c.of_primed-primed.ensures.base c.of_primed-primed.ensures.primed
