use Rattle.hol_derived.specs.Rules.{disj_cases_of}
use Rattle.hol_just.proofs.Applied.{is_first, where_ok, third_over, third_applies, third_infers}
use Rattle.hol_just.proofs.elimination_steps.cases.Goals as goal

pub cases_with-requires-clause-over : goal.cases_with-requires-clause-over
cases_with-requires-clause-over c = third_over disj_cases_of c.args.thms.now c.take.new.self c.in-Some.either (is_first c.args.thms.now c.take.new.self c.take.result c.in-Some.either c.take.ensures c.in-Some.is)

pub cases_with-requires-clause-gives : goal.cases_with-requires-clause-gives
cases_with-requires-clause-gives c = third_applies disj_cases_of c.args.thms.now c.take.new.self c.in-Some.either (is_first c.args.thms.now c.take.new.self c.take.result c.in-Some.either c.take.ensures c.in-Some.is) c.requires

pub returns : goal.returns
returns c =
    where_ok c.cases_with.result (third_infers disj_cases_of c.args.thms.now c.take.new.self c.in-Some.either (is_first c.args.thms.now c.take.new.self c.take.result c.in-Some.either c.take.ensures c.in-Some.is) c.cases_with.new.thms) c.cases_with.ensures
