use Rattle.std.proofs.Common.{◌≡◌, map, take}
use Rattle.hol_theory.proofs.older.Older.copy.Given as goal

abbrev pub invariant-loop-layer : goal.invariant-loop-layer
invariant-loop-layer l = map (λ layer. layer.value) l.layers.items ≡ take l.layer-index (map (λ layer. layer.value) l.layer-items)
