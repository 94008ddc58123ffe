use Rattle.std.proofs.Common.{◌≡◌, ◌++◌, drop, take}
use Rattle.hol_types.specs.Names.{insert_name}
use Rattle.hol_types.proofs.lists.place_of.Given as goal

abbrev pub invariant-loop-i : goal.invariant-loop-i
invariant-loop-i l = insert_name l.name l.names ≡ take l.i l.names ++ insert_name l.name (drop l.i l.names)
