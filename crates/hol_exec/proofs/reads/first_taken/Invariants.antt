use Rattle.std.proofs.Common.{◌≡◌, drop, take, map, []}
use Rattle.hol_exec.specs.Standing.{first_taken}
use Rattle.hol_exec.proofs.reads.first_taken.Given as goal

abbrev pub invariant-loop-i : goal.invariant-loop-i
invariant-loop-i l = first_taken [] l.values ≡ first_taken (map (λ value. value.0) (take l.i l.values)) (drop l.i l.values)
