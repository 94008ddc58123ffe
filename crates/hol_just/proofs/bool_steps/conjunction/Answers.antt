use Rattle.hol_just.specs.Reasons.{conjoined}
use Rattle.hol_just.proofs.Applied.{is_first, where_ok, first_over, first_applies, first_infers}
use Rattle.hol_just.proofs.bool_steps.conjunction.Goals as goal

pub conjunction_with-requires-clause-over : goal.conjunction_with-requires-clause-over
conjunction_with-requires-clause-over c = first_over conjoined c.args.thms.now c.take.new.self c.in-Some.left (is_first c.args.thms.now c.take.new.self c.take.result c.in-Some.left c.take.ensures c.in-Some.is)

pub conjunction_with-requires-clause-gives : goal.conjunction_with-requires-clause-gives
conjunction_with-requires-clause-gives c = first_applies conjoined c.args.thms.now c.take.new.self c.in-Some.left (is_first c.args.thms.now c.take.new.self c.take.result c.in-Some.left c.take.ensures c.in-Some.is) c.requires

pub returns : goal.returns
returns c =
    where_ok c.conjunction_with.result (first_infers conjoined c.args.thms.now c.take.new.self c.in-Some.left (is_first c.args.thms.now c.take.new.self c.take.result c.in-Some.left c.take.ensures c.in-Some.is) c.conjunction_with.new.thms) c.conjunction_with.ensures
