use Rattle.hol_just.specs.Reasons.{cut}
use Rattle.hol_just.proofs.Applied.{is_first, where_ok, first_over, first_applies, first_infers}
use Rattle.hol_just.proofs.equal_steps.cut.Goals as goal

pub cut_with-requires-clause-over : goal.cut_with-requires-clause-over
cut_with-requires-clause-over c = first_over cut c.args.thms.now c.take.new.self c.in-Some.lemma (is_first c.args.thms.now c.take.new.self c.take.result c.in-Some.lemma c.take.ensures c.in-Some.is)

pub cut_with-requires-clause-gives : goal.cut_with-requires-clause-gives
cut_with-requires-clause-gives c = first_applies cut c.args.thms.now c.take.new.self c.in-Some.lemma (is_first c.args.thms.now c.take.new.self c.take.result c.in-Some.lemma c.take.ensures c.in-Some.is) c.requires

pub returns : goal.returns
returns c =
    where_ok c.cut_with.result (first_infers cut c.args.thms.now c.take.new.self c.in-Some.lemma (is_first c.args.thms.now c.take.new.self c.take.result c.in-Some.lemma c.take.ensures c.in-Some.is) c.cut_with.new.thms) c.cut_with.ensures
