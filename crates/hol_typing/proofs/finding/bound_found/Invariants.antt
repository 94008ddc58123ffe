use Rattle.std.proofs.Common.{◌≡◌, take}
use Rattle.hol_typing.specs.Graph.{bound_names}
use Rattle.hol_typing.specs.Found.{AreRowFound, bound_from}
use Rattle.hol_typing.proofs.finding.bound_found.Given as goal

abbrev pub invariant-loop-at : goal.invariant-loop-at
invariant-loop-at l = record {
  row : AreRowFound l.found l.part.ty l.part.base (take l.at (bound_names l.part));
  bound : l.bound.items ≡ bound_from l.found l.part.ty l.part.base (take l.at (bound_names l.part));
}
