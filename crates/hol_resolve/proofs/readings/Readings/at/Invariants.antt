use Rattle.std.proofs.Common.{◌≡◌, nat_eq, drop}
use Rattle.std.specs.Map.{lookup}
use Rattle.hol_resolve.specs.ReadingView.{list_value}
use Rattle.hol_resolve.proofs.readings.Readings.at.Given as goal

abbrev pub invariant-loop-reading : goal.invariant-loop-reading
invariant-loop-reading l =
    lookup (nat_eq l.place) (list_value l.reading-items) ≡ lookup (nat_eq l.place) (list_value (drop l.reading-index l.reading-items))
