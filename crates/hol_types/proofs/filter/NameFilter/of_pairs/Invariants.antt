use Rattle.std.proofs.Common.{◌≡◌, drop}
use Rattle.std.specs.Int.RustNames.{bit_or}
use Rattle.hol_types.specs.Filter.{pairs_filter}
use Rattle.hol_types.proofs.filter.NameFilter.of_pairs.Given as goal

abbrev pub invariant-loop-pair : goal.invariant-loop-pair
invariant-loop-pair l = bit_or l.names.bits (pairs_filter (drop l.pair-index l.pairs)) ≡ pairs_filter l.pairs
