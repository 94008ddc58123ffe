use Rattle.std.proofs.Common.{◌≡◌, ◌++◌, drop}
use Rattle.hol_exec.specs.Keys.{keys_in}
use Rattle.hol_exec.proofs.reads.keys.add_parts.Given as goal

abbrev pub invariant-loop-part : goal.invariant-loop-part
invariant-loop-part l = l.initial.keys.items ++ keys_in l.parts ≡ l.keys.items ++ keys_in (drop l.part-index l.parts)
