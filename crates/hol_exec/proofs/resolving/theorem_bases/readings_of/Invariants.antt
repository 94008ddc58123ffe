use Rattle.std.proofs.Common.{◌≡◌, ◌++◌, drop}
use Rattle.hol_resolve.specs.ReadingView.{list_value}
use Rattle.hol_exec.specs.OwnBases.{readings_of}
use Rattle.hol_exec.proofs.resolving.theorem_bases.readings_of.Given as goal

abbrev pub invariant-loop-reading : goal.invariant-loop-reading
invariant-loop-reading l = readings_of (list_value l.readings) l.quotations ≡ list_value l.own.items ++ readings_of (list_value (drop l.reading-index l.readings)) l.quotations
