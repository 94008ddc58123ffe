use Rattle.hol_typing.specs.Graph.{generics}
use Rattle.hol_typing.specs.Expanding.{Refines}
use Rattle.hol_typing.proofs.generate.Graph.settle.Given as goal

abbrev pub invariant-loop-slot : goal.invariant-loop-slot
invariant-loop-slot l = Refines l.initial.self l.self

abbrev pub decreases-loop-slot : goal.decreases-loop-slot
decreases-loop-slot l = generics l.self.cells.items
