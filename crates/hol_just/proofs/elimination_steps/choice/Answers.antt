use Rattle.hol_derived.specs.Rules.{choose_of}
use Rattle.hol_just.proofs.Applied.{is_first, where_ok, first_over, first_applies, first_infers}
use Rattle.hol_just.proofs.elimination_steps.choice.Goals as goal

pub choice_with-requires-clause-over : goal.choice_with-requires-clause-over
choice_with-requires-clause-over c = first_over (choose_of c.args.v.now) c.args.thms.now c.take.new.self c.in-Some.existence (is_first c.args.thms.now c.take.new.self c.take.result c.in-Some.existence c.take.ensures c.in-Some.is)

pub choice_with-requires-clause-gives : goal.choice_with-requires-clause-gives
choice_with-requires-clause-gives c = first_applies (choose_of c.args.v.now) c.args.thms.now c.take.new.self c.in-Some.existence (is_first c.args.thms.now c.take.new.self c.take.result c.in-Some.existence c.take.ensures c.in-Some.is) c.requires

pub returns : goal.returns
returns c =
    where_ok c.choice_with.result (first_infers (choose_of c.args.v.now) c.args.thms.now c.take.new.self c.in-Some.existence (is_first c.args.thms.now c.take.new.self c.take.result c.in-Some.existence c.take.ensures c.in-Some.is) c.choice_with.new.thms) c.choice_with.ensures
