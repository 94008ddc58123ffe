use Rattle.std.proofs.Common.{◌≡◌, take}
use Rattle.hol_exec.specs.OwnBases.{values_under}
use Rattle.hol_exec.proofs.resolving.theorem_bases.values_under.Given as goal

abbrev pub invariant-loop-key : goal.invariant-loop-key
invariant-loop-key l = l.values.items ≡ values_under l.cited (take l.key-index l.keys)
