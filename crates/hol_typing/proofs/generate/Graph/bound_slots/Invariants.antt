use Rattle.std.proofs.Common.{take, drop}
use Rattle.hol_typing.specs.Linear.{AreLinearBut}
use Rattle.hol_typing.specs.Expanding.{BuildsAllBound}
use Rattle.hol_typing.proofs.generate.Graph.bound_slots.Given as goal

abbrev pub invariant-loop-ty : goal.invariant-loop-ty
invariant-loop-ty l = record {
  builds : BuildsAllBound l.initial.self l.self l.names.value.items l.base l.parts.items (take l.ty-index l.types);
  linear : AreLinearBut l.names.value.items (drop l.ty-index l.types);
}
