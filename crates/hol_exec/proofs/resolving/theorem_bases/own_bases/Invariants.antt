use Rattle.std.proofs.Common.{◌≡◌, ◌++◌, drop}
use Rattle.hol_resolve.specs.ReadingView.{readings_value}
use Rattle.hol_exec.specs.OwnBases.{own_bases}
use Rattle.hol_exec.specs.SetupView.{setup_value}
use Rattle.hol_exec.proofs.resolving.theorem_bases.own_bases.Given as goal

abbrev pub invariant-loop-call : goal.invariant-loop-call
invariant-loop-call g l =
    own_bases l.reads.cited (readings_value l.readings) (setup_value l.setup).table l.call-items
    ≡ l.bases.items ++ own_bases l.reads.cited (readings_value l.readings) (setup_value l.setup).table (drop l.call-index l.call-items)
