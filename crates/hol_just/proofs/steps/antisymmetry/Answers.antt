use Rattle.hol_just.specs.Reasons.{antisymmetric}
use Rattle.hol_just.proofs.Applied.{is_first, where_ok, first_over, first_applies, first_infers}
use Rattle.hol_just.proofs.steps.antisymmetry.Goals as goal

pub antisymmetry_with-requires-clause-over : goal.antisymmetry_with-requires-clause-over
antisymmetry_with-requires-clause-over c = first_over antisymmetric c.args.thms.now c.take.new.self c.in-Some.there (is_first c.args.thms.now c.take.new.self c.take.result c.in-Some.there c.take.ensures c.in-Some.is)

pub antisymmetry_with-requires-clause-gives : goal.antisymmetry_with-requires-clause-gives
antisymmetry_with-requires-clause-gives c = first_applies antisymmetric c.args.thms.now c.take.new.self c.in-Some.there (is_first c.args.thms.now c.take.new.self c.take.result c.in-Some.there c.take.ensures c.in-Some.is) c.requires

pub returns : goal.returns
returns c =
    where_ok c.antisymmetry_with.result (first_infers antisymmetric c.args.thms.now c.take.new.self c.in-Some.there (is_first c.args.thms.now c.take.new.self c.take.result c.in-Some.there c.take.ensures c.in-Some.is) c.antisymmetry_with.new.thms) c.antisymmetry_with.ensures
