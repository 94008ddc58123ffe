use Rattle.hol_types.proofs.Filters.{pairs_step}
use Rattle.hol_types.proofs.filter.NameFilter.of_pairs.Goals as goal

pub loop-pair-preserved : goal.loop-pair-preserved
loop-pair-preserved c =
    let step = pairs_step c.loop-pair.names.bits c.args.pairs.now c.loop-pair.pair-index c.pair-item.result c.loop-pair-test.true c.pair-item.is in cc
