use Rattle.std.proofs.Common.{◌≡◌, map, take}
use Rattle.hol_goal.proofs.names.Names.copy.Given as goal

abbrev pub invariant-loop-part : goal.invariant-loop-part
invariant-loop-part l = map (λ part. part.value) l.parts.items ≡ take l.part-index (map (λ part. part.value) l.part-items)
