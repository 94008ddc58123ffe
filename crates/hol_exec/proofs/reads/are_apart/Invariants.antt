use Rattle.std.proofs.Common.{drop}
use Rattle.hol_exec.proofs.Agreeing.{ApartFrom}
use Rattle.hol_exec.proofs.reads.are_apart.Given as goal

abbrev pub invariant-loop-value : goal.invariant-loop-value
invariant-loop-value l = ApartFrom l.changes l.values (drop l.value-index l.values)
