use Rattle.std.proofs.Common.{drop}
use Rattle.hol_subst.proofs.Rest.{IsRestSoFar}
use Rattle.hol_subst.proofs.pairs.rest_of.Given as goal

abbrev pub invariant-loop-pair : goal.invariant-loop-pair
invariant-loop-pair l = IsRestSoFar l.v l.b l.pairs l.rest.items (drop l.pair-index l.pairs)
