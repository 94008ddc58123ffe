use Rattle.std.proofs.Common.{◌+◌, ◌*◌}
use Rattle.hol_conv.proofs.Counts.{node_count}
use Rattle.hol_conv.proofs.trace_node.+append.Given as goal

abbrev pub decreases-append : goal.decreases-append
decreases-append l = 2 * node_count l.first.now + 1

abbrev pub decreases-append_parts : goal.decreases-append_parts
decreases-append_parts l = 2 * node_count l.first.now

abbrev pub decreases-append_body : goal.decreases-append_body
decreases-append_body l = 2 * node_count l.first.now
