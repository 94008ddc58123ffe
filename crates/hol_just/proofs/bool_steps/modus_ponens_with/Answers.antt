use Rattle.std.proofs.Common.{sym, ◌∙◌}
use Rattle.hol_derived.specs.Rules.{mp_of}
use Rattle.hol_just.proofs.Applied.{second_taken, second_applies, is_first, where_ok}
use Rattle.hol_just.proofs.bool_steps.modus_ponens_with.Goals as goal

pub mp-made-requires : goal.mp-made-requires
mp-made-requires c =
    record {
      same_basis = c.requires.over ∙ sym ((is_first c.args.thms.now c.take.new.self c.take.result c.in-Some.premise c.take.ensures c.in-Some.is).over);
      applies = second_applies (mp_of c.args.implication.sequent) c.args.implication.basis c.args.thms.now c.take.new.self c.in-Some.premise (is_first c.args.thms.now c.take.new.self c.take.result c.in-Some.premise c.take.ensures c.in-Some.is) c.requires.gives;
    }

pub returns : goal.returns
returns c =
    where_ok c.put.result
    (second_taken (mp_of c.args.implication.sequent) c.args.implication.basis c.args.thms.now c.take.new.self c.put.new.self c.in-Some.premise c.in_ok-thm.thm (is_first c.args.thms.now c.take.new.self c.take.result c.in-Some.premise c.take.ensures c.in-Some.is)
    c.in_ok-thm.ensures)
    c.put.ensures
