use Rattle.std.proofs.Common.{◌≡◌, ◌≤◌, length}
use Rattle.hol_typing.specs.Graph.{SameSolutions, IsGraph, AreIn, work_left, generics}
use Rattle.hol_typing.proofs.graph.unify.Given as goal

abbrev pub invariant-loop-equation : goal.invariant-loop-equation
invariant-loop-equation l = record {
  graph : IsGraph l.cells;
  len : length l.cells ≡ length l.initial.cells;
  pending_in : AreIn l.cells l.pending.items;
  solutions : SameSolutions l.cells l.pending.items l.initial.cells l.initial.pending.items;
  generics : generics l.cells ≤ generics l.initial.cells;
}

abbrev pub decreases-loop-equation : goal.decreases-loop-equation
decreases-loop-equation l = work_left l.cells l.pending.items
