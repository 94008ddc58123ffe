use Rattle.std.proofs.Common.{◌≡◌, drop}
use Rattle.hol_terms.specs.Named.{var}
use Rattle.hol_subst.specs.Capture.{given_or}
use Rattle.hol_subst.proofs.pairs.replacement.Given as goal

abbrev pub invariant-loop-pair : goal.invariant-loop-pair
invariant-loop-pair l = given_or l.pairs l.v (var l.v) ≡ given_or (drop l.pair-index l.pairs) l.v (var l.v)
