use Rattle.std.proofs.Common.{ap, sym, Some}
use Rattle.hol_just.specs.Reasons.{antisymmetric}
use Rattle.hol_just.proofs.Applied.{second_taken, is_first, where_ok}
use Rattle.hol_just.proofs.steps.antisymmetry_with.Goals as goal

pub returns : goal.returns
returns c =
    where_ok c.put.result
    (second_taken (antisymmetric c.args.there.sequent) c.in-Some.back.basis c.args.thms.now c.take.new.self c.put.new.self c.in-Some.back c.in_ok-thm.thm (is_first c.args.thms.now c.take.new.self c.take.result c.in-Some.back c.take.ensures c.in-Some.is)
    (ap Some (sym c.in_ok-thm.ensures)))
    c.put.ensures
