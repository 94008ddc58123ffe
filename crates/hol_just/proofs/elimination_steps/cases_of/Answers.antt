use Rattle.std.proofs.Common.{sym, ◌∙◌}
use Rattle.hol_derived.specs.Rules.{disj_cases_of}
use Rattle.hol_just.proofs.Applied.{second_taken, second_applies, is_first, where_ok}
use Rattle.hol_just.proofs.elimination_steps.cases_of.Goals as goal

pub disj_cases-made-requires : goal.disj_cases-made-requires
disj_cases-made-requires c =
    record {
      same_basis = c.requires.over ∙ sym c.requires.also;
      third_basis = c.requires.over ∙ sym ((is_first c.args.thms.now c.take.new.self c.take.result c.in-Some.right c.take.ensures c.in-Some.is).over);
      applies = second_applies (disj_cases_of c.args.either.sequent c.args.left.sequent) c.args.either.basis c.args.thms.now c.take.new.self c.in-Some.right (is_first c.args.thms.now c.take.new.self c.take.result c.in-Some.right c.take.ensures c.in-Some.is) c.requires.gives;
    }

pub returns : goal.returns
returns c =
    where_ok c.put.result
    (second_taken (disj_cases_of c.args.either.sequent c.args.left.sequent) c.args.either.basis c.args.thms.now c.take.new.self c.put.new.self c.in-Some.right c.in_ok-thm.thm (is_first c.args.thms.now c.take.new.self c.take.result c.in-Some.right c.take.ensures c.in-Some.is)
    c.in_ok-thm.ensures)
    c.put.ensures
