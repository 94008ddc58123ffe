use Rattle.std.proofs.Common.{[], ◌≡◌, Some, sym, subst}
use Rattle.std.specs.Prelude.{IsSome}
use Rattle.hol_terms.specs.Nameless.{nameless}
use Rattle.hol_kernel.specs.Items.{Items}
use Rattle.hol_kernel.specs.Theorem.{over}
use Rattle.hol_equal.specs.Refusals.{in_equal}
use Rattle.hol_equal.specs.declared.error.Rule.TheVariants as rule
use Rattle.hol_just.specs.Reasons.{replaced}
use Rattle.hol_just.proofs.Applied.{second_taken, second_applies, is_first, gave, where_ok, made_or_short}
use Rattle.hol_just.proofs.equal_steps.replacement_with.Goals as goal

pub made_in_equal-made-requires : goal.made_in_equal-made-requires
made_in_equal-made-requires c =
    made_or_short in_equal rule.Subst _ c.subst.result
    (subst (λ (b : Items). IsSome (over c.args.equation.basis (replaced b c.args.v.now (nameless [] c.args.m.now) c.args.equation.sequent c.in-Some.at_left.sequent))) (sym c.requires.over)
    (second_applies (replaced c.args.thms.now.basis c.args.v.now (nameless [] c.args.m.now) c.args.equation.sequent) c.args.equation.basis c.args.thms.now c.take.new.self c.in-Some.at_left (is_first c.args.thms.now c.take.new.self c.take.result c.in-Some.at_left c.take.ensures c.in-Some.is) c.requires.gives))
    c.subst.ensures.sequent

pub returns : goal.returns
returns c =
    where_ok c.put.result
    (second_taken (replaced c.args.thms.now.basis c.args.v.now (nameless [] c.args.m.now) c.args.equation.sequent) c.args.equation.basis c.args.thms.now c.take.new.self c.put.new.self c.in-Some.at_left c.in_ok-thm.thm (is_first c.args.thms.now c.take.new.self c.take.result c.in-Some.at_left c.take.ensures c.in-Some.is)
    (subst (λ (b : Items). over c.args.equation.basis (replaced b c.args.v.now (nameless [] c.args.m.now) c.args.equation.sequent c.in-Some.at_left.sequent) ≡ Some c.in_ok-thm.thm) c.requires.over
    (gave in_equal rule.Subst _ c.subst.result c.in_ok-thm.thm c.subst.ensures.sequent c.in_ok-thm.ensures)))
    c.put.ensures
