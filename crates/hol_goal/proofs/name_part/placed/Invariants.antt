use Rattle.std.proofs.Common.{map, take}
use Rattle.hol_goal.specs.NamePlaces.{ArePlaced}
use Rattle.hol_goal.proofs.name_part.placed.Given as goal

abbrev pub invariant-loop-name : goal.invariant-loop-name
invariant-loop-name l = ArePlaced (take l.name-index l.names) (map (λ place. place.items) l.places.items)
