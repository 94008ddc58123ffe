-- Of each request what it is said to be, and of each edit what it came to.
use Rattle.std.proofs.Common.{refl}
use Rattle.std.proofs.lemmas.Result.{IfOk-weaker}
use Rattle.hol_wire.specs.Replies.{Counts, Closed}
use Rattle.hol_session.proofs.Machines.{served_edit, kept_edit}
use Rattle.hol_session.proofs.answering.served.Goals as goal

pub returns-in-NewTheory-clause-ok : goal.returns-in-NewTheory-clause-ok
returns-in-NewTheory-clause-ok g c = rw c.in-NewTheory.is (served_edit _ _ _ _ c.new_theory.result c.edit_reply.result c.new_theory.ensures.ok c.new_theory.ensures.refused c.new_theory.ensures.kept c.new_theory.ensures.setup
    c.new_theory.ensures.cache c.new_theory.ensures.rises c.new_theory.ensures.ran c.new_theory.ensures.uncounted c.edit_reply.ensures.done c.edit_reply.ensures.refused)

pub returns-in-NewTheory-clause-kept : goal.returns-in-NewTheory-clause-kept
returns-in-NewTheory-clause-kept g c = kept_edit _ c.new_theory.result c.edit_reply.result c.edit_reply.ensures.memory c.new_theory.ensures.kept

pub returns-in-DropTheory-clause-ok : goal.returns-in-DropTheory-clause-ok
returns-in-DropTheory-clause-ok g c = rw c.in-DropTheory.is (served_edit _ _ _ _ c.drop_theory.result c.edit_reply-in-DropTheory.result c.drop_theory.ensures.ok c.drop_theory.ensures.refused c.drop_theory.ensures.kept c.drop_theory.ensures.setup
    c.drop_theory.ensures.cache c.drop_theory.ensures.rises c.drop_theory.ensures.ran c.drop_theory.ensures.uncounted c.edit_reply-in-DropTheory.ensures.done c.edit_reply-in-DropTheory.ensures.refused)

pub returns-in-DropTheory-clause-kept : goal.returns-in-DropTheory-clause-kept
returns-in-DropTheory-clause-kept g c = kept_edit _ c.drop_theory.result c.edit_reply-in-DropTheory.result c.edit_reply-in-DropTheory.ensures.memory c.drop_theory.ensures.kept

pub returns-in-Insert-clause-ok : goal.returns-in-Insert-clause-ok
returns-in-Insert-clause-ok g c = rw c.in-Insert.is (served_edit _ _ _ _ c.insert.result c.edit_reply-in-Insert.result c.insert.ensures.ok c.insert.ensures.refused c.insert.ensures.kept c.insert.ensures.setup
    c.insert.ensures.cache c.insert.ensures.rises c.insert.ensures.ran c.insert.ensures.uncounted c.edit_reply-in-Insert.ensures.done c.edit_reply-in-Insert.ensures.refused)

pub returns-in-Insert-clause-kept : goal.returns-in-Insert-clause-kept
returns-in-Insert-clause-kept g c = kept_edit _ c.insert.result c.edit_reply-in-Insert.result c.edit_reply-in-Insert.ensures.memory c.insert.ensures.kept

pub returns-in-Replace-clause-ok : goal.returns-in-Replace-clause-ok
returns-in-Replace-clause-ok g c = rw c.in-Replace.is (served_edit _ _ _ _ c.replace.result c.edit_reply-in-Replace.result c.replace.ensures.ok c.replace.ensures.refused c.replace.ensures.kept c.replace.ensures.setup
    c.replace.ensures.cache c.replace.ensures.rises c.replace.ensures.ran c.replace.ensures.uncounted c.edit_reply-in-Replace.ensures.done c.edit_reply-in-Replace.ensures.refused)

pub returns-in-Replace-clause-kept : goal.returns-in-Replace-clause-kept
returns-in-Replace-clause-kept g c = kept_edit _ c.replace.result c.edit_reply-in-Replace.result c.edit_reply-in-Replace.ensures.memory c.replace.ensures.kept

pub returns-in-Remove-clause-ok : goal.returns-in-Remove-clause-ok
returns-in-Remove-clause-ok g c = rw c.in-Remove.is (served_edit _ _ _ _ c.remove.result c.edit_reply-in-Remove.result c.remove.ensures.ok c.remove.ensures.refused c.remove.ensures.kept c.remove.ensures.setup
    c.remove.ensures.cache c.remove.ensures.rises c.remove.ensures.ran c.remove.ensures.uncounted c.edit_reply-in-Remove.ensures.done c.edit_reply-in-Remove.ensures.refused)

pub returns-in-Remove-clause-kept : goal.returns-in-Remove-clause-kept
returns-in-Remove-clause-kept g c = kept_edit _ c.remove.result c.edit_reply-in-Remove.result c.edit_reply-in-Remove.ensures.memory c.remove.ensures.kept

pub returns-in-Report-clause-ok : goal.returns-in-Report-clause-ok
returns-in-Report-clause-ok g c = rw c.in-Report.is c.reported.ensures

pub returns-in-Theorems-clause-ok : goal.returns-in-Theorems-clause-ok
returns-in-Theorems-clause-ok g c = rw c.in-Theorems.is c.listed.ensures

pub returns-in-Basis-clause-ok : goal.returns-in-Basis-clause-ok
returns-in-Basis-clause-ok g c = rw c.in-Basis.is c.based.ensures

pub returns-in-Stats-clause-ok : goal.returns-in-Stats-clause-ok
returns-in-Stats-clause-ok g c = IfOk-weaker c.counts.result _ _ (λ reply says. (Counts c.ran.result, says, rw (c.in-Stats.is, c.ran.ensures) (refl, refl))) c.counts.ensures

pub returns-in-Close-clause-ok : goal.returns-in-Close-clause-ok
returns-in-Close-clause-ok g c = (Closed, c.closed.ensures, rw c.in-Close.is (refl, refl))
