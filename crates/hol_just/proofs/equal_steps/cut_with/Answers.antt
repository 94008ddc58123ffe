use Rattle.std.proofs.Common.{ap, sym, Some}
use Rattle.hol_just.specs.Reasons.{cut}
use Rattle.hol_just.proofs.Applied.{second_taken, is_first, where_ok}
use Rattle.hol_just.proofs.equal_steps.cut_with.Goals as goal

pub returns : goal.returns
returns c =
    where_ok c.put.result
    (second_taken (cut c.args.lemma.sequent) c.args.lemma.basis c.args.thms.now c.take.new.self c.put.new.self c.in-Some.under c.in_ok-thm.thm (is_first c.args.thms.now c.take.new.self c.take.result c.in-Some.under c.take.ensures c.in-Some.is)
    (ap Some (sym c.in_ok-thm.ensures)))
    c.put.ensures
