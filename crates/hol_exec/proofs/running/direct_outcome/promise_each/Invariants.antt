use Rattle.std.proofs.Common.{drop, map}
use Rattle.hol_exec.specs.StateValue.{AreTheories}
use Rattle.hol_exec.proofs.running.direct_outcome.promise_each.Given as goal

-- what is left being theories, all are
abbrev pub invariant-loop-theory : goal.invariant-loop-theory
invariant-loop-theory g l = AreTheories (map g.T.EarlierTheory.ended (drop l.theory-index l.earlier)) → AreTheories (map g.T.EarlierTheory.ended l.earlier)
