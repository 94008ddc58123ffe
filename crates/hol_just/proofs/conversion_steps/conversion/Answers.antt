use Rattle.std.proofs.Common.{sym, ◌∙◌}
use Rattle.hol_just.specs.Reasons.{converted_back}
use Rattle.hol_just.proofs.Applied.{from_one_taken, is_first, where_ok, one_applies}
use Rattle.hol_derived.proofs.Instances.{over_basis}
use Rattle.hol_just.proofs.conversion_steps.conversion.Goals as goal

pub converted_back-made-requires : goal.converted_back-made-requires
converted_back-made-requires c =
    one_applies (λ basis. converted_back basis c.args.trace.now) c.args.thms.now c.take.new.self c.in-Some.converted (is_first c.args.thms.now c.take.new.self c.take.result c.in-Some.converted c.take.ensures c.in-Some.is) c.requires

pub put-requires : goal.put-requires
put-requires c =
    let first = is_first c.args.thms.now c.take.new.self c.take.result c.in-Some.converted c.take.ensures c.in-Some.is in
    over_basis c.in-Some.converted.basis (converted_back c.in-Some.converted.basis c.args.trace.now c.in-Some.converted.sequent) c.in_ok-thm.thm c.in_ok-thm.ensures ∙ first.over ∙ sym first.basis

pub returns : goal.returns
returns c =
    where_ok c.put.result
    (from_one_taken (λ basis. converted_back basis c.args.trace.now) c.args.thms.now c.take.new.self c.put.new.self c.in-Some.converted c.in_ok-thm.thm
    (is_first c.args.thms.now c.take.new.self c.take.result c.in-Some.converted c.take.ensures c.in-Some.is) c.in_ok-thm.ensures)
    c.put.ensures
