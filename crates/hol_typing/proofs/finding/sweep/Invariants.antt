use Rattle.std.proofs.Common.{◌≡◌, length}
use Rattle.hol_typing.specs.Found.{IsBuilt}
use Rattle.hol_typing.proofs.Saturating.{SweepSoFar}
use Rattle.hol_typing.proofs.finding.sweep.Given as goal

abbrev pub invariant-loop-slot : goal.invariant-loop-slot
invariant-loop-slot l = record {
  len : length l.found ≡ length l.cells;
  built : IsBuilt l.cells l.numbering l.found;
  so_far : SweepSoFar l.cells l.initial.found l.found l.slot l.progress;
}
