use Rattle.hol_derived.specs.Rules.{undisch_of}
use Rattle.hol_just.proofs.Applied.{from_one_taken, is_first, where_ok, one_applies}
use Rattle.hol_just.proofs.bool_steps.undischarge.Goals as goal

pub undisch-made-requires : goal.undisch-made-requires
undisch-made-requires c =
    record {
      applies = one_applies (λ basis. undisch_of) c.args.thms.now c.take.new.self c.in-Some.implication (is_first c.args.thms.now c.take.new.self c.take.result c.in-Some.implication c.take.ensures c.in-Some.is) c.requires;
    }

pub returns : goal.returns
returns c =
    where_ok c.put.result
    (from_one_taken (λ basis. undisch_of) c.args.thms.now c.take.new.self c.put.new.self c.in-Some.implication c.in_ok-thm.thm
    (is_first c.args.thms.now c.take.new.self c.take.result c.in-Some.implication c.take.ensures c.in-Some.is)
    c.in_ok-thm.ensures)
    c.put.ensures
