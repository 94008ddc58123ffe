use Rattle.std.proofs.Common.{drop}
use Rattle.hol_subst.proofs.Rest.{IsFirstSoFar}
use Rattle.hol_subst.proofs.substitution.first_pairs.Given as goal

abbrev pub invariant-loop-pair : goal.invariant-loop-pair
invariant-loop-pair l = IsFirstSoFar l.pairs l.found.items (drop l.pair-index l.pairs)
