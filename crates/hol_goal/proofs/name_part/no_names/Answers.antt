use Rattle.std.proofs.Common.{map}
use Rattle.hol_goal.proofs.NamePlaces.{none_placed}
use Rattle.hol_goal.proofs.name_part.no_names.Goals as goal

pub returns : goal.returns
returns c = none_placed (map (λ place. place.items) c.loop-place.places.items) c.loop-place._place c.loop-place-test.false c.loop-place.auto._place-end c.loop-place.invariant
