use Rattle.std.proofs.Common.{List, map, take, drop, string_bytes}
use Rattle.hol_document.specs.RunnerView.{setup_of, ran_of, GoesOn}
use Rattle.hol_exec.specs.StateValue.{EndedTheory}
use Rattle.hol_document.specs.Alike.{EndAlike}
use Rattle.hol_document.specs.Settled.{HaveFollowed}
use Rattle.hol_document.specs.Slots.{AreStanding, ended_of}
use Rattle.hol_document.proofs.redo.follow.Given as goal

abbrev pub invariant-loop-theory : goal.invariant-loop-theory
invariant-loop-theory g l = record {
  goes : GoesOn l.fn.runner l.runner;
  done : HaveFollowed (setup_of l.fn.runner) l.fn.done.items (take l.theory-index l.theories) (ran_of l.fn.runner) (ran_of l.runner) l.done.items;
  left : (before : List EndedTheory) × AreStanding (setup_of l.fn.runner) before (drop l.theory-index l.theories) × EndAlike (map (λ name. string_bytes name.value) l.names.items) before (map ended_of l.done.items);
}
