use Rattle.std.proofs.Common.{ap, sym, ◌∙◌, Some}
use Rattle.hol_just.specs.Reasons.{conjoined}
use Rattle.hol_just.proofs.Applied.{second_taken, is_first, where_ok}
use Rattle.hol_just.proofs.bool_steps.conjunction_with.Goals as goal

pub conj-made-requires : goal.conj-made-requires
conj-made-requires c =
    record {
      same_basis = c.requires.over ∙ sym ((is_first c.args.thms.now c.take.new.self c.take.result c.in-Some.right c.take.ensures c.in-Some.is).over);
    }

pub returns : goal.returns
returns c =
    where_ok c.put.result
    (second_taken (conjoined c.args.left.sequent) c.args.left.basis c.args.thms.now c.take.new.self c.put.new.self c.in-Some.right c.in_ok-thm.thm (is_first c.args.thms.now c.take.new.self c.take.result c.in-Some.right c.take.ensures c.in-Some.is)
    (ap Some (sym c.in_ok-thm.ensures)))
    c.put.ensures
