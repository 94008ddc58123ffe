use Rattle.std.proofs.Common.{◌≡◌, drop}
use Rattle.hol_subst.specs.Capture.{has_pair}
use Rattle.hol_subst.proofs.pairs.has_pair.Given as goal

abbrev pub invariant-loop-pair : goal.invariant-loop-pair
invariant-loop-pair l = has_pair l.pairs l.v ≡ has_pair (drop l.pair-index l.pairs) l.v
