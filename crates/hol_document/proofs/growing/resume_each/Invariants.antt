use Rattle.std.proofs.Common.{List, map, drop}
use Rattle.hol_exec.specs.Setup.{SetupValue}
use Rattle.hol_exec.specs.StateValue.{StateValue, EndedTheory}
use Rattle.hol_document.specs.Slots.{AreSlots}
use Rattle.hol_document.proofs.growing.resume_each.Given as goal

abbrev pub invariant-loop-slot : goal.invariant-loop-slot
invariant-loop-slot l = (setup : SetupValue) (before : List EndedTheory) (last : StateValue) → AreSlots setup before l.fn.state (map (λ x. x.value) l.slots) last
    → AreSlots setup before l.state (map (λ x. x.value) (drop l.slot-index l.slots)) last
