use Rattle.std.proofs.Common.{take}
use Rattle.hol_exec.specs.Filters.{HasNames}
use Rattle.hol_exec.proofs.reads.names.names_of.Given as goal

abbrev pub invariant-loop-key : goal.invariant-loop-key
invariant-loop-key l = HasNames l.names.bits (take l.key-index l.keys)
