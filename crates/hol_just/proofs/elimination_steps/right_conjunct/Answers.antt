use Rattle.hol_derived.specs.Rules.{conjunct2_of}
use Rattle.hol_just.proofs.Applied.{from_one_taken, is_first, where_ok, one_applies}
use Rattle.hol_just.proofs.elimination_steps.right_conjunct.Goals as goal

pub conjunct2-made-requires : goal.conjunct2-made-requires
conjunct2-made-requires c =
    record {
      applies = one_applies (λ basis. conjunct2_of) c.args.thms.now c.take.new.self c.in-Some.both (is_first c.args.thms.now c.take.new.self c.take.result c.in-Some.both c.take.ensures c.in-Some.is) c.requires;
    }

pub returns : goal.returns
returns c =
    where_ok c.put.result
    (from_one_taken (λ basis. conjunct2_of) c.args.thms.now c.take.new.self c.put.new.self c.in-Some.both c.in_ok-thm.thm
    (is_first c.args.thms.now c.take.new.self c.take.result c.in-Some.both c.take.ensures c.in-Some.is)
    c.in_ok-thm.ensures)
    c.put.ensures
