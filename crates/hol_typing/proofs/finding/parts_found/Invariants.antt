use Rattle.std.proofs.Common.{◌≡◌, take, map, Some}
use Rattle.hol_typing.specs.Found.{found_at}
use Rattle.hol_typing.proofs.finding.parts_found.Given as goal

abbrev pub invariant-loop-part : goal.invariant-loop-part
invariant-loop-part l = map (found_at l.found) (take l.part-index l.parts) ≡ map Some l.shapes.items
