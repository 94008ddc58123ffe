use Rattle.std.proofs.Common.{◌≡◌, take}
use Rattle.hol_exec.specs.ReadsValue.{values_of}
use Rattle.hol_exec.proofs.reads.values_of.Given as goal

abbrev pub invariant-loop-key : goal.invariant-loop-key
invariant-loop-key l = l.values.items ≡ values_of l.state.entries (take l.key-index l.keys)
