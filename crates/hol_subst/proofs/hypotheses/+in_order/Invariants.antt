use Rattle.std.proofs.Common.{length}
use Rattle.hol_subst.proofs.hypotheses.+in_order.Given as goal

abbrev pub decreases-in_order : goal.decreases-in_order
decreases-in_order l = length l.terms.now
