use Rattle.std.proofs.Common.{◌≡◌, bytes_eq, drop}
use Rattle.std.specs.Map.{lookup}
use Rattle.hol_resolve.proofs.theorems.find.Given as goal

abbrev pub invariant-loop-entry : goal.invariant-loop-entry
invariant-loop-entry l = lookup (bytes_eq l.name) l.cited ≡ lookup (bytes_eq l.name) (drop l.entry-index l.cited)
