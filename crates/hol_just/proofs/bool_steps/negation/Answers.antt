use Rattle.hol_derived.specs.Rules.{not_intro_of}
use Rattle.hol_just.proofs.Applied.{from_one_taken, is_first, where_ok, one_applies}
use Rattle.hol_just.proofs.bool_steps.negation.Goals as goal

pub not_intro-made-requires : goal.not_intro-made-requires
not_intro-made-requires c =
    record {
      applies = one_applies (λ basis. not_intro_of) c.args.thms.now c.take.new.self c.in-Some.implication (is_first c.args.thms.now c.take.new.self c.take.result c.in-Some.implication c.take.ensures c.in-Some.is) c.requires;
    }

pub returns : goal.returns
returns c =
    where_ok c.put.result
    (from_one_taken (λ basis. not_intro_of) c.args.thms.now c.take.new.self c.put.new.self c.in-Some.implication c.in_ok-thm.thm
    (is_first c.args.thms.now c.take.new.self c.take.result c.in-Some.implication c.take.ensures c.in-Some.is)
    c.in_ok-thm.ensures)
    c.put.ensures
