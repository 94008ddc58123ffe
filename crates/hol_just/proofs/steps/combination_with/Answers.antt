use Rattle.hol_kernel.specs.Rules.{mk_comb_of}
use Rattle.hol_kernel.specs.Gives.{in_kernel}
use Rattle.hol_kernel.specs.declared.error.Rule.TheVariants as rule
use Rattle.hol_just.proofs.Applied.{second_taken, second_applies, is_first, gave, where_ok, made_or_short}
use Rattle.hol_just.proofs.steps.combination_with.Goals as goal

pub made_in_kernel-made-requires : goal.made_in_kernel-made-requires
made_in_kernel-made-requires c =
    made_or_short in_kernel rule.MkComb _ c.mk_comb.result
    (second_applies (mk_comb_of c.args.functions.sequent) c.args.functions.basis c.args.thms.now c.take.new.self c.in-Some.arguments (is_first c.args.thms.now c.take.new.self c.take.result c.in-Some.arguments c.take.ensures c.in-Some.is) c.requires.gives)
    c.mk_comb.ensures.sequent

pub returns : goal.returns
returns c =
    where_ok c.put.result
    (second_taken (mk_comb_of c.args.functions.sequent) c.args.functions.basis c.args.thms.now c.take.new.self c.put.new.self c.in-Some.arguments c.in_ok-thm.thm (is_first c.args.thms.now c.take.new.self c.take.result c.in-Some.arguments c.take.ensures c.in-Some.is)
    (gave in_kernel rule.MkComb _ c.mk_comb.result c.in_ok-thm.thm c.mk_comb.ensures.sequent c.in_ok-thm.ensures))
    c.put.ensures
