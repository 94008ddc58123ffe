use Rattle.std.proofs.Common.{◌≡◌, take, drop}
use Rattle.hol_typing.specs.declared.scheme.Variables.TheVariants.{Distinct}
use Rattle.hol_typing.specs.Linear.{AreLinear}
use Rattle.hol_typing.specs.Expanding.{BuildsParts}
use Rattle.hol_typing.proofs.generate.Graph.generic_slots.Given as goal

abbrev pub invariant-loop-ty : goal.invariant-loop-ty
invariant-loop-ty l = record {
  builds : BuildsParts l.initial.self l.self l.parts.items (take l.ty-index l.types);
  linear : l.variables ≡ Distinct → AreLinear (drop l.ty-index l.types);
}
