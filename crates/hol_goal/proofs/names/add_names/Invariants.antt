use Rattle.std.proofs.Common.{◌≡◌, ◌++◌, take}
use Rattle.hol_goal.proofs.names.add_names.Given as goal

abbrev pub invariant-loop-name : goal.invariant-loop-name
invariant-loop-name l = l.to.items ≡ l.initial.to.items ++ take l.name-index l.list
