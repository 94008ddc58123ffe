use Rattle.hol_kernel.specs.Rules.{mk_comb_of}
use Rattle.hol_just.proofs.Applied.{is_first, where_ok, first_over, first_applies, first_infers}
use Rattle.hol_just.proofs.steps.combination.Goals as goal

pub combination_with-requires-clause-over : goal.combination_with-requires-clause-over
combination_with-requires-clause-over c = first_over mk_comb_of c.args.thms.now c.take.new.self c.in-Some.functions (is_first c.args.thms.now c.take.new.self c.take.result c.in-Some.functions c.take.ensures c.in-Some.is)

pub combination_with-requires-clause-gives : goal.combination_with-requires-clause-gives
combination_with-requires-clause-gives c = first_applies mk_comb_of c.args.thms.now c.take.new.self c.in-Some.functions (is_first c.args.thms.now c.take.new.self c.take.result c.in-Some.functions c.take.ensures c.in-Some.is) c.requires

pub returns : goal.returns
returns c =
    where_ok c.combination_with.result (first_infers mk_comb_of c.args.thms.now c.take.new.self c.in-Some.functions (is_first c.args.thms.now c.take.new.self c.take.result c.in-Some.functions c.take.ensures c.in-Some.is) c.combination_with.new.thms) c.combination_with.ensures
