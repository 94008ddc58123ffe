use Rattle.hol_typing.specs.RawView.{slot_tree}
use Rattle.hol_typing.specs.SlotTree.{slot_nodes}
use Rattle.hol_typing.proofs.building.+build.Given as goal

abbrev pub decreases-build : goal.decreases-build
decreases-build l = slot_nodes (slot_tree l.term.now)
