use Rattle.std.proofs.Common.{◌≡◌, drop, map}
use Rattle.hol_exec.specs.At.{entries_named}
use Rattle.hol_exec.proofs.running.direct_outcome.theory_named.Given as goal

abbrev pub invariant-loop-theory : goal.invariant-loop-theory
invariant-loop-theory g l = entries_named l.name (map g.T.EarlierTheory.ended l.earlier) ≡ entries_named l.name (map g.T.EarlierTheory.ended (drop l.theory-index l.earlier))
