use Rattle.std.proofs.Common.{◌≡◌, drop}
use Rattle.hol_kernel.specs.Rules.{are_pairs_over}
use Rattle.hol_kernel.proofs.instances.are_pairs.Given as goal

abbrev pub invariant-loop-pair : goal.invariant-loop-pair
invariant-loop-pair l = are_pairs_over l.basis l.pairs ≡ are_pairs_over l.basis (drop l.pair-index l.pairs)
