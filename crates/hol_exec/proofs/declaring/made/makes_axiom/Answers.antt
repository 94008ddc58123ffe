use Rattle.std.proofs.Common.{[]}
use Rattle.std.proofs.lemmas.Result.{IfOk-weaker}
use Rattle.hol_terms.specs.Nameless.{nameless}
use Rattle.hol_resolve.specs.Reading.{ReadsAs}
use Rattle.hol_exec.proofs.declaring.made.makes_axiom.Goals as goal

pub returns-in-ReadsAs : goal.returns-in-ReadsAs
returns-in-ReadsAs g c = rw (← c.quotation.view_is) (IfOk-weaker c.axiom_of.result _ _ (λ o e. (ReadsAs (nameless [] c.in-ReadsAs.term), rw c.in-ReadsAs.is at c.in_ok-read_cited.ensures, e)) c.axiom_of.ensures)
