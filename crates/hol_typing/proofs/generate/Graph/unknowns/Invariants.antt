use Rattle.hol_typing.specs.Generate.{AddsUnknown}
use Rattle.hol_typing.proofs.generate.Graph.unknowns.Given as goal

abbrev pub invariant-loop : goal.invariant-loop
invariant-loop l = AddsUnknown l.initial.self l.self l.counter
