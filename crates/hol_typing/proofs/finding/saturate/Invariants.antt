use Rattle.std.proofs.Common.{◌≡◌, length}
use Rattle.hol_typing.specs.Found.{IsBuilt, missing}
use Rattle.hol_typing.proofs.finding.saturate.Given as goal

abbrev pub invariant-loop : goal.invariant-loop
invariant-loop l = record {
  len : length l.found ≡ length l.cells;
  built : IsBuilt l.cells l.numbering l.found;
}

abbrev pub decreases-loop : goal.decreases-loop
decreases-loop l = missing l.found
