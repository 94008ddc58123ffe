use Rattle.hol_equal.specs.Rules.{sym_of}
use Rattle.hol_equal.specs.Refusals.{in_equal}
use Rattle.hol_equal.specs.declared.error.Rule.TheVariants as rule
use Rattle.hol_just.proofs.Applied.{from_one_taken, is_first, gave, where_ok, made_or_short, one_applies}
use Rattle.hol_just.proofs.equal_steps.symmetry.Goals as goal

pub made_in_equal-made-requires : goal.made_in_equal-made-requires
made_in_equal-made-requires c =
    made_or_short in_equal rule.Sym _ c.sym.result
    (one_applies (λ basis. sym_of) c.args.thms.now c.take.new.self c.in-Some.equation (is_first c.args.thms.now c.take.new.self c.take.result c.in-Some.equation c.take.ensures c.in-Some.is) c.requires)
    c.sym.ensures.sequent

pub returns : goal.returns
returns c =
    where_ok c.put.result
    (from_one_taken (λ basis. sym_of) c.args.thms.now c.take.new.self c.put.new.self c.in-Some.equation c.in_ok-thm.thm
    (is_first c.args.thms.now c.take.new.self c.take.result c.in-Some.equation c.take.ensures c.in-Some.is)
    (gave in_equal rule.Sym _ c.sym.result c.in_ok-thm.thm c.sym.ensures.sequent c.in_ok-thm.ensures))
    c.put.ensures
