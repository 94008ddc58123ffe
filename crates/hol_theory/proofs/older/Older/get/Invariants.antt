use Rattle.std.proofs.Common.{◌≡◌, map, drop}
use Rattle.hol_theory.specs.Entry.{entry_at}
use Rattle.hol_theory.specs.Layers.{joined}
use Rattle.hol_theory.proofs.older.Older.get.Given as goal

abbrev pub invariant-loop-layer : goal.invariant-loop-layer
invariant-loop-layer l = entry_at l.key l.self ≡ entry_at l.key (joined (map (λ layer. layer.value) (drop l.layer-index l.layer-items)))
