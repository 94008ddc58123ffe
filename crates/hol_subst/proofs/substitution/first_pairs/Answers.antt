use Rattle.std.proofs.Common.{sym, subst}
use Rattle.hol_subst.proofs.Rest.{IsFirstSoFar, first_first, first_step}
use Rattle.hol_subst.proofs.substitution.first_pairs.Goals as goal

pub loop-pair-init : goal.loop-pair-init
loop-pair-init c = subst (λ x. IsFirstSoFar c.args.pairs.now x c.args.pairs.now) (sym c.new-found.ensures.items) (first_first c.args.pairs.now c.requires)

pub loop-pair-preserved : goal.loop-pair-preserved
loop-pair-preserved c = first_step c.args.pairs.now c.loop-pair.found.items c.add_first.new.found.items c.loop-pair.pair-index c.pair-item.result c.loop-pair.invariant c.loop-pair-test.true c.pair-item.is c.in_ok-add_first.ensures
