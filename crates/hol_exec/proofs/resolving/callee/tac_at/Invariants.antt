use Rattle.std.proofs.Common.{◌≡◌, drop}
use Rattle.hol_theory.specs.Key.{tac_key}
use Rattle.hol_exec.specs.Callee.{value_at}
use Rattle.hol_exec.proofs.resolving.callee.tac_at.Given as goal

abbrev pub invariant-loop-value : goal.invariant-loop-value
invariant-loop-value l = value_at (tac_key l.name) l.cited ≡ value_at (tac_key l.name) (drop l.value-index l.cited)
