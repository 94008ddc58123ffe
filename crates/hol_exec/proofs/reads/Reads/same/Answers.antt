use Rattle.std.proofs.lemmas.Bool.Decides.{same_from_decides}
use Rattle.hol_exec.specs.SameReads.{same_reads_are}
use Rattle.hol_exec.proofs.reads.Reads.same.Goals as goal

pub returns-clause-test : goal.returns-clause-test
returns-clause-test c = same_from_decides _ _ c.has_same_parts.ensures (same_reads_are _ _)
