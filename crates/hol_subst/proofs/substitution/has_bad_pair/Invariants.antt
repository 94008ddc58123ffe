use Rattle.std.proofs.Common.{drop, ◌↔◌}
use Rattle.hol_subst.specs.Pairs.{HasBadPair}
use Rattle.hol_subst.proofs.substitution.has_bad_pair.Given as goal

abbrev pub invariant-loop-pair : goal.invariant-loop-pair
invariant-loop-pair l = HasBadPair l.pairs ↔ HasBadPair (drop l.pair-index l.pairs)
