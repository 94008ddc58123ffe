use Rattle.std.proofs.Common.{◌≡◌, drop}
use Rattle.std.specs.List.{list_all}
use Rattle.hol_exec.specs.Tested.{is_marked}
use Rattle.hol_exec.proofs.running.tested.agree.Given as goal

abbrev pub invariant-loop-entry : goal.invariant-loop-entry
invariant-loop-entry l = list_all (is_marked l.names) l.tested ≡ list_all (is_marked l.names) (drop l.entry-index l.tested)
