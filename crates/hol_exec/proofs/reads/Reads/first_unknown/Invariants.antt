use Rattle.std.proofs.Common.{◌≡◌, drop}
use Rattle.hol_exec.specs.Standing.{first_unknown}
use Rattle.hol_exec.proofs.reads.Reads.first_unknown.Given as goal

abbrev pub invariant-loop-value : goal.invariant-loop-value
invariant-loop-value l = first_unknown l.value-items ≡ first_unknown (drop l.value-index l.value-items)
