use Rattle.hol_terms.specs.Named.{term_nodes}
use Rattle.hol_subst.proofs.substitution.+substituted.Given as goal

abbrev pub decreases-substituted : goal.decreases-substituted
decreases-substituted l = term_nodes l.t.now
