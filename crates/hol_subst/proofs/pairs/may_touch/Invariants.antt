use Rattle.std.proofs.Common.{◌≡◌, drop}
use Rattle.hol_subst.specs.Capture.{touches}
use Rattle.hol_subst.proofs.pairs.may_touch.Given as goal

abbrev pub invariant-loop-pair : goal.invariant-loop-pair
invariant-loop-pair l = touches l.pairs l.t ≡ touches (drop l.pair-index l.pairs) l.t
