use Rattle.hol_derived.specs.Rules.{gen_of}
use Rattle.hol_just.proofs.Applied.{from_one_taken, is_first, where_ok, one_applies}
use Rattle.hol_just.proofs.bool_steps.generalization.Goals as goal

pub generalize-made-requires : goal.generalize-made-requires
generalize-made-requires c =
    record {
      applies = one_applies (λ basis. gen_of basis c.args.v.now) c.args.thms.now c.take.new.self c.in-Some.property (is_first c.args.thms.now c.take.new.self c.take.result c.in-Some.property c.take.ensures c.in-Some.is) c.requires;
    }

pub returns : goal.returns
returns c =
    where_ok c.put.result
    (from_one_taken (λ basis. gen_of basis c.args.v.now) c.args.thms.now c.take.new.self c.put.new.self c.in-Some.property c.in_ok-thm.thm
    (is_first c.args.thms.now c.take.new.self c.take.result c.in-Some.property c.take.ensures c.in-Some.is)
    c.in_ok-thm.ensures)
    c.put.ensures
