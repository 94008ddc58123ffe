use Rattle.std.proofs.Common.{[], sym, ◌∙◌}
use Rattle.hol_terms.specs.Nameless.{nameless}
use Rattle.hol_derived.specs.Rules.{exists_of}
use Rattle.hol_just.proofs.Applied.{from_one_taken, is_first, where_ok, one_applies}
use Rattle.hol_derived.proofs.Instances.{over_basis}
use Rattle.hol_just.proofs.bool_steps.existence.Goals as goal

pub exists-made-requires : goal.exists-made-requires
exists-made-requires c =
    record {
      applies = one_applies (λ basis. exists_of basis (nameless [] c.args.e.now) (nameless [] c.args.t.now)) c.args.thms.now c.take.new.self c.in-Some.property (is_first c.args.thms.now c.take.new.self c.take.result c.in-Some.property c.take.ensures c.in-Some.is) c.requires;
    }

pub put-requires : goal.put-requires
put-requires c =
    let first = is_first c.args.thms.now c.take.new.self c.take.result c.in-Some.property c.take.ensures c.in-Some.is in
    over_basis c.in-Some.property.basis (exists_of c.in-Some.property.basis (nameless [] c.args.e.now) (nameless [] c.args.t.now) c.in-Some.property.sequent) c.in_ok-thm.thm c.in_ok-thm.ensures
    ∙ first.over ∙ sym first.basis

pub returns : goal.returns
returns c =
    where_ok c.put.result
    (from_one_taken (λ basis. exists_of basis (nameless [] c.args.e.now) (nameless [] c.args.t.now)) c.args.thms.now c.take.new.self c.put.new.self c.in-Some.property c.in_ok-thm.thm
    (is_first c.args.thms.now c.take.new.self c.take.result c.in-Some.property c.take.ensures c.in-Some.is)
    c.in_ok-thm.ensures)
    c.put.ensures
