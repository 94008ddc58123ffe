use Rattle.std.proofs.Common.{◌+◌, ◌*◌}
use Rattle.hol_conv.proofs.Counts.{node_count}
use Rattle.hol_replay.proofs.replaying.+node_theorem.Given as goal

abbrev pub decreases-node_theorem : goal.decreases-node_theorem
decreases-node_theorem l = 2 * node_count l.node.now

abbrev pub decreases-parts_theorem : goal.decreases-parts_theorem
decreases-parts_theorem l = 2 * (node_count l.function.now + node_count l.argument.now) + 1

abbrev pub decreases-body_theorem : goal.decreases-body_theorem
decreases-body_theorem l = 2 * node_count l.body.now + 1

abbrev pub decreases-both_theorem : goal.decreases-both_theorem
decreases-both_theorem l = 2 * (node_count l.first.now + node_count l.second.now) + 1
