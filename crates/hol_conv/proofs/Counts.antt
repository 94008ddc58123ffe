-- How many nodes a trace has.
use Rattle.std.specs.Prelude.{ℕ, ◌+◌}
use Rattle.hol_conv.specs.declared.trace_node.TraceNode.{TraceNode, Parts', Body', Both'}
use Rattle.hol_conv.specs.declared.trace_node.TraceNode.TheVariants.{Same, Rule, Beta}

abbrev pub node_count : TraceNode → ℕ
node_count Same = 1
node_count (Parts' p f q x) = 1 + (node_count f + node_count x)
node_count (Body' v p b) = 1 + node_count b
node_count (Rule r) = 1
node_count Beta = 1
node_count (Both' n p a q b) = 1 + (node_count a + node_count b)
