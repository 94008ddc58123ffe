use Rattle.hol_notation_terms.specs.Text.{term_nodes}
use Rattle.hol_infer.proofs.resolving.+resolve.Given as goal

abbrev pub decreases-resolve : goal.decreases-resolve
decreases-resolve l = term_nodes l.term.now
