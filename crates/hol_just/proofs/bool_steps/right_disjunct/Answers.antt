use Rattle.std.proofs.Common.{[]}
use Rattle.hol_terms.specs.Nameless.{nameless}
use Rattle.hol_derived.specs.Rules.{disj2_of}
use Rattle.hol_just.proofs.Applied.{from_one_taken, is_first, where_ok, one_applies}
use Rattle.hol_just.proofs.bool_steps.right_disjunct.Goals as goal

pub disj2-made-requires : goal.disj2-made-requires
disj2-made-requires c =
    record {
      applies = one_applies (λ basis. disj2_of basis (nameless [] c.args.p.now)) c.args.thms.now c.take.new.self c.in-Some.right (is_first c.args.thms.now c.take.new.self c.take.result c.in-Some.right c.take.ensures c.in-Some.is) c.requires;
    }

pub returns : goal.returns
returns c =
    where_ok c.put.result
    (from_one_taken (λ basis. disj2_of basis (nameless [] c.args.p.now)) c.args.thms.now c.take.new.self c.put.new.self c.in-Some.right c.in_ok-thm.thm
    (is_first c.args.thms.now c.take.new.self c.take.result c.in-Some.right c.take.ensures c.in-Some.is)
    c.in_ok-thm.ensures)
    c.put.ensures
