use Rattle.std.proofs.lemmas.Bool.Decides.{same_from_decides}
use Rattle.hol_exec.specs.SameReads.{same_reads_are}
use Rattle.hol_exec.proofs.reads.Reads.agree.Goals as goal

pub returns : goal.returns
returns c = same_from_decides _ _ c.has_parts_at.ensures (same_reads_are _ _)
