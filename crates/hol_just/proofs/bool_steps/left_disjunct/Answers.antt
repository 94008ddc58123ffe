use Rattle.std.proofs.Common.{[]}
use Rattle.hol_terms.specs.Nameless.{nameless}
use Rattle.hol_just.specs.Reasons.{left_disjunct}
use Rattle.hol_just.proofs.Applied.{from_one_taken, is_first, where_ok, one_applies}
use Rattle.hol_just.proofs.bool_steps.left_disjunct.Goals as goal

pub disj1-made-requires : goal.disj1-made-requires
disj1-made-requires c =
    record {
      applies = one_applies (λ basis. left_disjunct basis (nameless [] c.args.q.now)) c.args.thms.now c.take.new.self c.in-Some.left (is_first c.args.thms.now c.take.new.self c.take.result c.in-Some.left c.take.ensures c.in-Some.is) c.requires;
    }

pub returns : goal.returns
returns c =
    where_ok c.put.result
    (from_one_taken (λ basis. left_disjunct basis (nameless [] c.args.q.now)) c.args.thms.now c.take.new.self c.put.new.self c.in-Some.left c.in_ok-thm.thm
    (is_first c.args.thms.now c.take.new.self c.take.result c.in-Some.left c.take.ensures c.in-Some.is)
    c.in_ok-thm.ensures)
    c.put.ensures
