use Rattle.std.proofs.Common.{List, map, take, drop}
use Rattle.hol_document.specs.RunnerView.{setup_of, ran_of, GoesOn}
use Rattle.hol_exec.specs.StateValue.{StateValue, EndedTheory}
use Rattle.hol_document.specs.Alike.{AreAlike}
use Rattle.hol_document.specs.Settled.{HaveAdded, HaveLeft}
use Rattle.hol_document.specs.Slots.{AreSlots, ended_of}
use Rattle.hol_document.proofs.growing.settle_each.Given as goal

abbrev pub invariant-loop-at : goal.invariant-loop-at
invariant-loop-at g l = record {
  goes : GoesOn l.fn.runner l.runner;
  done : HaveAdded (setup_of l.fn.runner) (map ended_of l.earlier) l.fn.growing.state (map (λ x. x.value) (take l.at l.slots)) (ran_of l.fn.runner) (ran_of l.runner)
      (map (λ x. x.value) l.fn.growing.slots.items) (map (λ x. x.value) l.growing.slots.items) l.growing.state;
  left : (before : List EndedTheory) (s last : StateValue) → AreSlots (setup_of l.fn.runner) before s (map (λ x. x.value) l.slots) last → AreAlike l.fn.growing.drift s l.fn.growing.state
      → HaveLeft (setup_of l.fn.runner) before l.growing.drift (map (λ x. x.value) (drop l.at l.slots)) last l.growing.state;
}
