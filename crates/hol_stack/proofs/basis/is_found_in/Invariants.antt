use Rattle.std.proofs.Common.{◌≤◌, length, take}
use Rattle.hol_stack.proofs.Within.{AreHeld}
use Rattle.hol_stack.proofs.basis.is_found_in.Given as goal

abbrev pub invariant-loop-item : goal.invariant-loop-item
invariant-loop-item l = record {
  bound : l.found ≤ length l.items;
  held : AreHeld l.whole (take l.found l.items);
}
