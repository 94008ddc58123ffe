use Rattle.std.proofs.Common.{[]}
use Rattle.hol_terms.specs.Nameless.{nameless}
use Rattle.hol_derived.specs.Rules.{disch_of}
use Rattle.hol_just.proofs.Applied.{from_one_taken, is_first, where_ok, one_applies}
use Rattle.hol_just.proofs.bool_steps.discharge.Goals as goal

pub disch-made-requires : goal.disch-made-requires
disch-made-requires c =
    record {
      applies = one_applies (λ basis. disch_of basis (nameless [] c.args.p.now)) c.args.thms.now c.take.new.self c.in-Some.consequent (is_first c.args.thms.now c.take.new.self c.take.result c.in-Some.consequent c.take.ensures c.in-Some.is) c.requires;
    }

pub returns : goal.returns
returns c =
    where_ok c.put.result
    (from_one_taken (λ basis. disch_of basis (nameless [] c.args.p.now)) c.args.thms.now c.take.new.self c.put.new.self c.in-Some.consequent c.in_ok-thm.thm
    (is_first c.args.thms.now c.take.new.self c.take.result c.in-Some.consequent c.take.ensures c.in-Some.is)
    c.in_ok-thm.ensures)
    c.put.ensures
