-- The steps before the last one are fewer.
use Rattle.std.specs.Prelude.{◌≤◌, max, length}
use Rattle.std.proofs.Common.{arith}
use Rattle.hol_match.specs.declared.way.WayNode.{WayNode}
use Rattle.hol_match.specs.declared.way.WayNode.TheVariants.{Start, After}
use Rattle.hol_match.specs.declared.way.Way.TheDeep.{deep-WayNode}
use Rattle.hol_match.specs.WayView.{steps_of}

pub deep_le_length : (n : WayNode) → max (deep-WayNode n) 0 ≤ length (steps_of n)
deep_le_length Start = omega arith
deep_le_length (After before last) = omega arith
