use Rattle.std.proofs.Common.{◌≡◌, drop}
use Rattle.hol_subst.specs.Capture.{comes_in}
use Rattle.hol_subst.proofs.pairs.comes_in.Given as goal

abbrev pub invariant-loop-pair : goal.invariant-loop-pair
invariant-loop-pair l = comes_in l.pairs l.v l.b ≡ comes_in (drop l.pair-index l.pairs) l.v l.b
