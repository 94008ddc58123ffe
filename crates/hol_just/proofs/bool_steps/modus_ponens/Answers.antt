use Rattle.hol_derived.specs.Rules.{mp_of}
use Rattle.hol_just.proofs.Applied.{is_first, where_ok, first_over, first_applies, first_infers}
use Rattle.hol_just.proofs.bool_steps.modus_ponens.Goals as goal

pub modus_ponens_with-requires-clause-over : goal.modus_ponens_with-requires-clause-over
modus_ponens_with-requires-clause-over c = first_over mp_of c.args.thms.now c.take.new.self c.in-Some.implication (is_first c.args.thms.now c.take.new.self c.take.result c.in-Some.implication c.take.ensures c.in-Some.is)

pub modus_ponens_with-requires-clause-gives : goal.modus_ponens_with-requires-clause-gives
modus_ponens_with-requires-clause-gives c = first_applies mp_of c.args.thms.now c.take.new.self c.in-Some.implication (is_first c.args.thms.now c.take.new.self c.take.result c.in-Some.implication c.take.ensures c.in-Some.is) c.requires

pub returns : goal.returns
returns c =
    where_ok c.modus_ponens_with.result (first_infers mp_of c.args.thms.now c.take.new.self c.in-Some.implication (is_first c.args.thms.now c.take.new.self c.take.result c.in-Some.implication c.take.ensures c.in-Some.is) c.modus_ponens_with.new.thms) c.modus_ponens_with.ensures
