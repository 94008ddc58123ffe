use Rattle.std.proofs.Common.{◌≡◌, ◌++◌, drop}
use Rattle.std.specs.Option.{option_map}
use Rattle.hol_resolve.specs.Forward.{pairs_at}
use Rattle.hol_resolve.specs.ReadingView.{readings_value}
use Rattle.hol_resolve.proofs.pairs.pairs_at.Given as goal

abbrev pub invariant-loop-pair : goal.invariant-loop-pair
invariant-loop-pair l =
    pairs_at (readings_value l.readings) l.pairs ≡ option_map (λ ps. l.read.items ++ ps) (pairs_at (readings_value l.readings) (drop l.pair-index l.pairs))
