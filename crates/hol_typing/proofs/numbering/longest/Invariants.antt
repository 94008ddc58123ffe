use Rattle.std.proofs.Common.{ℕ, ◌<◌}
use Rattle.hol_typing.specs.Graph.{cell_at}
use Rattle.hol_typing.specs.Numbering.{IsCounted}
use Rattle.hol_typing.proofs.numbering.longest.Given as goal

abbrev pub invariant-loop-cell : goal.invariant-loop-cell
invariant-loop-cell l = (k : ℕ) → k < l.cell-index → IsCounted l.most (cell_at l.cells k)
