use Rattle.std.proofs.Common.{◌≡◌, drop}
use Rattle.hol_resolve.specs.ReadingView.{list_value}
use Rattle.hol_exec.specs.Resolved.{occurs_in}
use Rattle.hol_exec.proofs.resolving.occurring.occurs_in.Given as goal

abbrev pub invariant-loop-reading : goal.invariant-loop-reading
invariant-loop-reading l = occurs_in l.name (list_value l.readings) ≡ occurs_in l.name (list_value (drop l.reading-index l.readings))
