use Rattle.std.proofs.Common.{◌≡◌, ◌++◌, drop}
use Rattle.hol_exec.specs.Resolved.{cited_theorems}
use Rattle.hol_exec.proofs.resolving.cited.cited_theorems.Given as goal

abbrev pub invariant-loop-value : goal.invariant-loop-value
invariant-loop-value g l = cited_theorems l.values ≡ l.theorems.items ++ cited_theorems (drop l.value-index l.values)
