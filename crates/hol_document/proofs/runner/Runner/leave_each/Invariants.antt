use Rattle.std.proofs.Common.{List, map, drop}
use Rattle.hol_exec.specs.StateValue.{StateValue, EndedTheory}
use Rattle.hol_document.specs.RunnerView.{setup_of, Stays}
use Rattle.hol_document.specs.Slots.{AreSlots}
use Rattle.hol_document.proofs.runner.Runner.leave_each.Given as goal

abbrev pub invariant-loop-slot : goal.invariant-loop-slot
invariant-loop-slot g l = record {
  stays : Stays l.fn.self l.self;
  left : (before : List EndedTheory) × (s last : StateValue) × AreSlots (setup_of l.fn.self) before s (map (λ x. x.value) (drop l.slot-index l.slots)) last;
}
