use Rattle.hol_exec.proofs.NewEntries.{next_added}
use Rattle.hol_exec.proofs.reads.listed_keys.ListedKeys.add_keys_of.Goals as goal

pub loop-i-preserved : goal.loop-i-preserved
loop-i-preserved c =
    next_added c.args.entries.now c.loop-i.i (c.entry.result.0.now, c.entry.result.1.now) c.entry.ensures _ _ _ c.loop-i.invariant c.in_ok-add.ensures
