use Rattle.std.proofs.Common.{◌+◌, ◌*◌}
use Rattle.hol_terms.specs.Named.{term_nodes}
use Rattle.hol_conv.proofs.once_beside.+once_beside.Given as goal

abbrev pub decreases-once_beside : goal.decreases-once_beside
decreases-once_beside l = 2 * term_nodes l.t.now

abbrev pub decreases-once_in_parts : goal.decreases-once_in_parts
decreases-once_in_parts l = 2 * (term_nodes l.f.now + term_nodes l.x.now) + 1

abbrev pub decreases-once_in_body : goal.decreases-once_in_body
decreases-once_in_body l = 2 * term_nodes l.b.now + 1
