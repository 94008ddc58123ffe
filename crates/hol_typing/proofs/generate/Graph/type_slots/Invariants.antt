use Rattle.std.proofs.Common.{take, drop}
use Rattle.hol_types.specs.Tree.{type_list}
use Rattle.hol_typing.specs.Generate.{BuildsTypes, AreRigidBut}
use Rattle.hol_typing.proofs.generate.Graph.type_slots.Given as goal

abbrev pub invariant-loop-ty : goal.invariant-loop-ty
invariant-loop-ty l = record {
  builds : BuildsTypes l.initial.self l.self l.names l.base l.parts.items (take l.ty-index l.types);
  rigid : AreRigidBut l.names (type_list (drop l.ty-index l.types));
}
