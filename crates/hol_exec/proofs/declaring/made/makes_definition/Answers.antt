use Rattle.std.proofs.Common.{[]}
use Rattle.std.proofs.lemmas.Result.{IfOk-weaker}
use Rattle.hol_terms.specs.Nameless.{nameless}
use Rattle.hol_resolve.specs.Reading.{ReadsAs, LargeReading}
use Rattle.hol_exec.proofs.declaring.made.makes_definition.Goals as goal

pub returns-in-LargeReading : goal.returns-in-LargeReading
returns-in-LargeReading g c = (LargeReading, rw c.in-LargeReading.is at c.in_ok-read_definition.ensures, c.refused.ensures)

pub returns-in-ReadsAs : goal.returns-in-ReadsAs
returns-in-ReadsAs g c = IfOk-weaker c.defined_by.result _ _ (λ o e. (ReadsAs (nameless [] c.in-ReadsAs.equation), rw c.in-ReadsAs.is at c.in_ok-read_definition.ensures, e)) c.defined_by.ensures
