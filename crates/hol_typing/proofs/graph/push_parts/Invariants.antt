use Rattle.std.proofs.Common.{◌≡◌, ◌++◌, drop}
use Rattle.hol_typing.specs.Graph.{part_equations}
use Rattle.hol_typing.proofs.graph.push_parts.Given as goal

abbrev pub invariant-loop-i : goal.invariant-loop-i
invariant-loop-i l = l.pending.items ++ part_equations (drop l.i l.lefts) (drop l.i l.rights) ≡ l.initial.pending.items ++ part_equations l.lefts l.rights
