use Rattle.std.proofs.Common.{◌≡◌, drop}
use Rattle.hol_typing.specs.Generate.{slot_of}
use Rattle.hol_typing.proofs.generate.Graph.find.Given as goal

abbrev pub invariant-loop-pair : goal.invariant-loop-pair
invariant-loop-pair l = slot_of l.self.names.items l.name ≡ slot_of (drop l.pair-index l.self.names.items) l.name
