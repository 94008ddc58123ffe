use Rattle.std.proofs.Common.{◌≡◌, ◌++◌, drop}
use Rattle.hol_exec.specs.Tested.{marked}
use Rattle.hol_exec.proofs.running.tested.Tested.of.Given as goal

abbrev pub invariant-loop-name : goal.invariant-loop-name
invariant-loop-name l = l.marked.items ++ marked l.names (drop l.name-index l.tested) ≡ marked l.names l.tested
