use Rattle.std.proofs.Common.{sym, ◌∙◌}
use Rattle.hol_derived.specs.Rules.{disj_cases_of}
use Rattle.hol_just.proofs.Applied.{is_first, where_ok, first_over, first_applies, first_infers}
use Rattle.hol_just.proofs.elimination_steps.cases_with.Goals as goal

pub cases_of-requires-clause-over : goal.cases_of-requires-clause-over
cases_of-requires-clause-over c =
    let first = (is_first c.args.thms.now c.take.new.self c.take.result c.in-Some.left c.take.ensures c.in-Some.is) in
    c.requires.over ∙ sym first.basis

pub cases_of-requires-clause-also : goal.cases_of-requires-clause-also
cases_of-requires-clause-also c = first_over (disj_cases_of c.args.either.sequent) c.args.thms.now c.take.new.self c.in-Some.left (is_first c.args.thms.now c.take.new.self c.take.result c.in-Some.left c.take.ensures c.in-Some.is)

pub cases_of-requires-clause-gives : goal.cases_of-requires-clause-gives
cases_of-requires-clause-gives c = first_applies (disj_cases_of c.args.either.sequent) c.args.thms.now c.take.new.self c.in-Some.left (is_first c.args.thms.now c.take.new.self c.take.result c.in-Some.left c.take.ensures c.in-Some.is) c.requires.gives

pub returns : goal.returns
returns c =
    where_ok c.cases_of.result (first_infers (disj_cases_of c.args.either.sequent) c.args.thms.now c.take.new.self c.in-Some.left (is_first c.args.thms.now c.take.new.self c.take.result c.in-Some.left c.take.ensures c.in-Some.is) c.cases_of.new.thms) c.cases_of.ensures
