use Rattle.std.proofs.Common.{◌≡◌, map, take}
use Rattle.hol_goal.proofs.names.Names.new.Given as goal

abbrev pub invariant-loop-name : goal.invariant-loop-name
invariant-loop-name l = l.names ≡ map (λ name. name.now) (take l.name-index l.list)
