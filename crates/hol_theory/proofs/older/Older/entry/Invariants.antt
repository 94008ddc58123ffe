use Rattle.std.proofs.Common.{◌≡◌, ◌<◌, map, drop, length}
use Rattle.std.specs.Prelude.{slice_get}
use Rattle.hol_theory.specs.Layers.{joined}
use Rattle.hol_theory.proofs.older.Older.entry.Given as goal

abbrev pub invariant-loop-layer : goal.invariant-loop-layer
invariant-loop-layer l =
    let later = joined (map (λ layer. layer.value) (drop l.layer-index l.layer-items)) in record {
      within : l.rest < length later;
      entry : slice_get l.self l.index ≡ slice_get later l.rest;
    }
