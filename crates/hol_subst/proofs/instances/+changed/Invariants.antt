use Rattle.hol_terms.specs.Named.{term_nodes}
use Rattle.hol_subst.proofs.instances.+changed.Given as goal

abbrev pub decreases-changed : goal.decreases-changed
decreases-changed l = term_nodes l.t.now
