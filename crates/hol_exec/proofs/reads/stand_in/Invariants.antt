use Rattle.std.proofs.Common.{drop}
use Rattle.hol_exec.proofs.Agreeing.{AgreeFrom}
use Rattle.hol_exec.proofs.reads.stand_in.Given as goal

abbrev pub invariant-loop-value : goal.invariant-loop-value
invariant-loop-value l = AgreeFrom l.state.entries l.values (drop l.value-index l.values)
