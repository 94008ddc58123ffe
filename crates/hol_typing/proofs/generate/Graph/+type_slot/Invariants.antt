use Rattle.std.proofs.Common.{take, drop}
use Rattle.hol_types.specs.Tree.{type_list, type_size}
use Rattle.hol_typing.specs.Generate.{BuildsTypes, AreRigidBut}
use Rattle.hol_typing.proofs.generate.Graph.+type_slot.Given as goal

abbrev pub invariant-loop-arg : goal.invariant-loop-arg
invariant-loop-arg l = record {
  builds : BuildsTypes l.initial.self l.self l.names l.base l.parts.items (take l.arg-index l.arg-items);
  rigid : AreRigidBut l.names (type_list (drop l.arg-index l.arg-items));
}

abbrev pub decreases-type_slot : goal.decreases-type_slot
decreases-type_slot l = type_size l.ty.now
