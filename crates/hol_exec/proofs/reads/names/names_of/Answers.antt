use Rattle.hol_exec.proofs.NameFilters.{names_step}
use Rattle.hol_exec.proofs.reads.names.names_of.Goals as goal

pub loop-key-preserved : goal.loop-key-preserved
loop-key-preserved c =
    rw c.union-names.ensures
    (names_step c.loop-key.names.bits c.filter.result.bits c.args.keys.now c.loop-key.key-index c.key-item.result c.loop-key-test.true c.key-item.is c.loop-key.invariant c.filter.ensures)
