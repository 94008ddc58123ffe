use Rattle.std.proofs.Common.{◌+◌, ◌*◌}
use Rattle.hol_terms.specs.Named.{term_nodes}
use Rattle.hol_formulas.specs.Written.{written_term}
use Rattle.hol_formulas.proofs.written.+made.Given as goal

abbrev pub decreases-written_term : goal.decreases-written_term
decreases-written_term l = 2 * term_nodes (written_term l.written.now)

abbrev pub decreases-make_application : goal.decreases-make_application
decreases-make_application l = 2 * (term_nodes (written_term l.f.now) + term_nodes (written_term l.x.now)) + 1

abbrev pub decreases-make_abstraction : goal.decreases-make_abstraction
decreases-make_abstraction l = 2 * term_nodes (written_term l.body.now) + 1

abbrev pub decreases-make_equation : goal.decreases-make_equation
decreases-make_equation l = 2 * (term_nodes (written_term l.left.now) + term_nodes (written_term l.right.now)) + 1

abbrev pub decreases-make_connective : goal.decreases-make_connective
decreases-make_connective l = 2 * (term_nodes (written_term l.p.now) + term_nodes (written_term l.q.now)) + 1

abbrev pub decreases-make_quantified : goal.decreases-make_quantified
decreases-make_quantified l = 2 * term_nodes (written_term l.p.now) + 1
