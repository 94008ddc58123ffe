use Rattle.std.proofs.Common.{◌≡◌, drop}
use Rattle.hol_exec.specs.Callee.{value_at}
use Rattle.hol_exec.proofs.resolving.theorem_bases.value_at.Given as goal

abbrev pub invariant-loop-value : goal.invariant-loop-value
invariant-loop-value l = value_at l.key l.cited ≡ value_at l.key (drop l.value-index l.cited)
