use Rattle.std.proofs.Common.{sym, ◌∙◌}
use Rattle.hol_derived.specs.Rules.{choose_of}
use Rattle.hol_just.proofs.Applied.{second_taken, second_applies, is_first, where_ok}
use Rattle.hol_just.proofs.elimination_steps.choice_with.Goals as goal

pub choose-made-requires : goal.choose-made-requires
choose-made-requires c =
    record {
      same_basis = c.requires.over ∙ sym ((is_first c.args.thms.now c.take.new.self c.take.result c.in-Some.chosen c.take.ensures c.in-Some.is).over);
      applies = second_applies (choose_of c.args.v.now c.args.existence.sequent) c.args.existence.basis c.args.thms.now c.take.new.self c.in-Some.chosen (is_first c.args.thms.now c.take.new.self c.take.result c.in-Some.chosen c.take.ensures c.in-Some.is) c.requires.gives;
    }

pub returns : goal.returns
returns c =
    where_ok c.put.result
    (second_taken (choose_of c.args.v.now c.args.existence.sequent) c.args.existence.basis c.args.thms.now c.take.new.self c.put.new.self c.in-Some.chosen c.in_ok-thm.thm (is_first c.args.thms.now c.take.new.self c.take.result c.in-Some.chosen c.take.ensures c.in-Some.is)
    c.in_ok-thm.ensures)
    c.put.ensures
