use Rattle.std.proofs.Common.{◌≡◌, [], map, replicate}
use Rattle.hol_goal.proofs.name_part.no_names.Given as goal

abbrev pub invariant-loop-place : goal.invariant-loop-place
invariant-loop-place l = map (λ place. place.items) l.places.items ≡ replicate l._place []
