use Rattle.std.proofs.Common.{◌≡◌, ℕ, ◌≤◌}
use Rattle.hol_types.specs.Tree.{TypeTree}
use Rattle.hol_typing.specs.Graph.{Respects}
use Rattle.hol_typing.proofs.graph.root.Given as goal

abbrev pub invariant-loop-at : goal.invariant-loop-at
invariant-loop-at l = record {
  lower : l.at ≤ l.fn.slot;
  same : (types : ℕ → TypeTree) → Respects l.cells types → types l.fn.slot ≡ types l.at;
}

abbrev pub decreases-loop-at : goal.decreases-loop-at
decreases-loop-at l = l.at
