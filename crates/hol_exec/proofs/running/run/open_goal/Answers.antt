use Rattle.std.proofs.Common.{ap, sym, ◌∙◌}
use Rattle.hol_resolve.specs.ReadingView.{reading_value}
use Rattle.hol_exec.proofs.Runs.{opens_at, if_ok}
use Rattle.hol_exec.proofs.running.run.open_goal.Goals as goal

pub open_term-requires : goal.open_term-requires
open_term-requires g c = (c.quotation.inside.term, rw c.in-ReadsAs.is at c.in_ok-read_cited.ensures)

pub returns-in-WrongArity : goal.returns-in-WrongArity
returns-in-WrongArity g c =
    rw (← c.quotation.view_is) (if_ok _ _ _ (λ o e. opens_at _ _ (record { place = c.quotation.inside.place; term = c.quotation.inside.term }) _ _ _ o (sym c.in_proof.ensures ∙ c.if-in_proof.false) c.in_ok-read_cited.ensures (ap reading_value c.in-WrongArity.is) e) c.refused_at.ensures)

pub returns-in-NoTyping : goal.returns-in-NoTyping
returns-in-NoTyping g c =
    rw (← c.quotation.view_is) (if_ok _ _ _ (λ o e. opens_at _ _ (record { place = c.quotation.inside.place; term = c.quotation.inside.term }) _ _ _ o (sym c.in_proof.ensures ∙ c.if-in_proof.false) c.in_ok-read_cited.ensures (ap reading_value c.in-NoTyping.is) e) c.refused_at-in-NoTyping.ensures)

pub returns-in-LargeReading : goal.returns-in-LargeReading
returns-in-LargeReading g c =
    rw (← c.quotation.view_is) (opens_at _ _ (record { place = c.quotation.inside.place; term = c.quotation.inside.term }) _ _ _ _ (sym c.in_proof.ensures ∙ c.if-in_proof.false) c.in_ok-read_cited.ensures (ap reading_value c.in-LargeReading.is) c.refused-in-LargeReading.ensures)

pub returns-in-ReadsAs : goal.returns-in-ReadsAs
returns-in-ReadsAs g c =
    rw (← c.quotation.view_is) (if_ok c.open_term.result _ _ (λ o e. opens_at _ c.args.name.now (record { place = c.quotation.inside.place; term = c.quotation.inside.term }) c.args.reads.now _ _ o (sym c.in_proof.ensures ∙ c.if-in_proof.false) c.in_ok-read_cited.ensures (ap reading_value c.in-ReadsAs.is) e) c.open_term.ensures)
