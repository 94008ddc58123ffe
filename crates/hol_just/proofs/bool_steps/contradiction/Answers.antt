use Rattle.std.proofs.Common.{[]}
use Rattle.hol_terms.specs.Nameless.{nameless}
use Rattle.hol_derived.specs.Rules.{contr_of}
use Rattle.hol_just.proofs.Applied.{from_one_taken, is_first, where_ok, one_applies}
use Rattle.hol_just.proofs.bool_steps.contradiction.Goals as goal

pub contr-made-requires : goal.contr-made-requires
contr-made-requires c =
    record {
      applies = one_applies (λ basis. contr_of basis (nameless [] c.args.p.now)) c.args.thms.now c.take.new.self c.in-Some.falsity (is_first c.args.thms.now c.take.new.self c.take.result c.in-Some.falsity c.take.ensures c.in-Some.is) c.requires;
    }

pub returns : goal.returns
returns c =
    where_ok c.put.result
    (from_one_taken (λ basis. contr_of basis (nameless [] c.args.p.now)) c.args.thms.now c.take.new.self c.put.new.self c.in-Some.falsity c.in_ok-thm.thm
    (is_first c.args.thms.now c.take.new.self c.take.result c.in-Some.falsity c.take.ensures c.in-Some.is)
    c.in_ok-thm.ensures)
    c.put.ensures
