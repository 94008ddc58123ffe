use Rattle.hol_notation_terms.specs.Text.{term_nodes}
use Rattle.hol_infer.proofs.constants.+count_named.Given as goal

abbrev pub decreases-count_named : goal.decreases-count_named
decreases-count_named l = term_nodes l.term.now
