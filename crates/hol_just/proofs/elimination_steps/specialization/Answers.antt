use Rattle.std.proofs.Common.{[]}
use Rattle.hol_terms.specs.Nameless.{nameless}
use Rattle.hol_derived.specs.Rules.{spec_of}
use Rattle.hol_just.proofs.Applied.{from_one_taken, is_first, where_ok, one_applies}
use Rattle.hol_just.proofs.elimination_steps.specialization.Goals as goal

pub spec-made-requires : goal.spec-made-requires
spec-made-requires c =
    record {
      applies = one_applies (λ basis. spec_of basis (nameless [] c.args.t.now)) c.args.thms.now c.take.new.self c.in-Some.each (is_first c.args.thms.now c.take.new.self c.take.result c.in-Some.each c.take.ensures c.in-Some.is) c.requires;
    }

pub returns : goal.returns
returns c =
    where_ok c.put.result
    (from_one_taken (λ basis. spec_of basis (nameless [] c.args.t.now)) c.args.thms.now c.take.new.self c.put.new.self c.in-Some.each c.in_ok-thm.thm
    (is_first c.args.thms.now c.take.new.self c.take.result c.in-Some.each c.take.ensures c.in-Some.is)
    c.in_ok-thm.ensures)
    c.put.ensures
