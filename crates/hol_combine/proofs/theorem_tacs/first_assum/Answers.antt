use Rattle.std.proofs.Common.{[], codes, sym, subst, arith}
use Rattle.hol_terms.specs.Nameless.{nameless}
use Rattle.hol_kernel.proofs.Members.{Among}
use Rattle.hol_goal.specs.UsedView.{used_value}
use Rattle.hol_combine.specs.ExprView.{theorem_tac_value}
use Rattle.hol_combine.specs.Runs.{RunValue, Leaves, Refuses, Stops, TurnLimit, LargeGoal, hand, first_assum}
use Rattle.hol_combine.specs.RunView.{IsError, refusal_value, using, used_by}
use Rattle.hol_combine.proofs.Handed.{valid_staying, among_at, first_answers, first_ends}
use Rattle.hol_combine.proofs.Ends.{refusal_is, refused_left}
use Rattle.hol_combine.proofs.theorem_tacs.first_assum.Goals as goal

-- what an assumption answers, as the answer of all: `first_answers` of the loop's place

pub returns-in-Ok-clause-answer : goal.returns-in-Ok-clause-answer
returns-in-Ok-clause-answer g c =
    let known = g.T.Tacs.known_of c.args.tacs.now in
    let called = theorem_tac_value c.args.tac.now in
    first_answers known called c.args.goal.now (first_assum known called c.args.goal.now.assumptions c.args.goal.now (used_value c.args.used)) (Leaves c.in-Ok.ran.step.goals.items (used_by c.in-Ok.ran))
    c.assumptions-p-items.result.now c.loop-p.p-index c.p-item.result (used_value c.loop-p.used) c.loop-p-test.true c.p-item.is c.loop-p.invariant.answer c.in-Ok.ensures.answer

pub returns-in-Ok-clause-valid : goal.returns-in-Ok-clause-valid
returns-in-Ok-clause-valid g c =
    let p = nameless [] c.p-item.result in
    valid_staying (theorem_tac_value c.args.tac.now) p c.args.goal.now c.in-Ok.ran.step
    (subst (Among p) c.assumptions-p-items.ensures.terms (among_at c.assumptions-p-items.result.now c.loop-p.p-index c.p-item.result c.loop-p-test.true c.p-item.is))
    c.in-Ok.ensures.valid

pub loop-p-preserved : goal.loop-p-preserved
loop-p-preserved g c =
    let known = g.T.Tacs.known_of c.args.tacs.now in
    let called = theorem_tac_value c.args.tac.now in
    record {
      answer = sym (first_answers known called c.args.goal.now (first_assum known called c.args.goal.now.assumptions c.args.goal.now (used_value c.args.used)) (Refuses (refusal_value c.in-Err-Refused.field-0-0) (using c.in-Err-Refused.left c.in-Err-Refused.tested.items))
          c.assumptions-p-items.result.now c.loop-p.p-index c.p-item.result (used_value c.loop-p.used) c.loop-p-test.true c.p-item.is c.loop-p.invariant.answer
          (subst (IsError (hand known called (nameless [] c.p-item.result) c.args.goal.now (used_value c.loop-p.used))) c.in-Err-Refused.field-0-is c.in-Err-Refused.ensures.answer));
      left = omega (arith, c.loop-p.invariant.left, refused_left c.loop-p.used.left c.in-Err-Refused.field-0 c.in-Err-Refused.field-0-0 c.in-Err-Refused.left c.in-Err-Refused.tested c.in-Err-Refused.field-0-is c.in-Err-Refused.ensures.left);
    }

pub returns-in-Err-TurnLimit-clause-answer : goal.returns-in-Err-TurnLimit-clause-answer
returns-in-Err-TurnLimit-clause-answer g c =
    let known = g.T.Tacs.known_of c.args.tacs.now in
    let called = theorem_tac_value c.args.tac.now in
    first_answers known called c.args.goal.now (first_assum known called c.args.goal.now.assumptions c.args.goal.now (used_value c.args.used)) (Stops TurnLimit c.in-Err-TurnLimit.tested.items)
    c.assumptions-p-items.result.now c.loop-p.p-index c.p-item.result (used_value c.loop-p.used) c.loop-p-test.true c.p-item.is c.loop-p.invariant.answer
    (subst (IsError (hand known called (nameless [] c.p-item.result) c.args.goal.now (used_value c.loop-p.used))) c.in-Err-TurnLimit.field-0-is c.in-Err-TurnLimit.ensures.answer)

pub returns-in-Err-LargeGoal-clause-answer : goal.returns-in-Err-LargeGoal-clause-answer
returns-in-Err-LargeGoal-clause-answer g c =
    let known = g.T.Tacs.known_of c.args.tacs.now in
    let called = theorem_tac_value c.args.tac.now in
    first_answers known called c.args.goal.now (first_assum known called c.args.goal.now.assumptions c.args.goal.now (used_value c.args.used)) (Stops LargeGoal c.in-Err-LargeGoal.tested.items)
    c.assumptions-p-items.result.now c.loop-p.p-index c.p-item.result (used_value c.loop-p.used) c.loop-p-test.true c.p-item.is c.loop-p.invariant.answer
    (subst (IsError (hand known called (nameless [] c.p-item.result) c.args.goal.now (used_value c.loop-p.used))) c.in-Err-LargeGoal.field-0-is c.in-Err-LargeGoal.ensures.answer)

pub returns-clause-answer : goal.returns-clause-answer
returns-clause-answer g c =
    let known = g.T.Tacs.known_of c.args.tacs.now in
    let called = theorem_tac_value c.args.tac.now in
    let whole : RunValue = first_assum known called c.args.goal.now.assumptions c.args.goal.now (used_value c.args.used) in
    refusal_is whole (codes "FIRST_ASSUM") (used_value c.loop-p.used) c.refused.result
    (first_ends known called c.args.goal.now whole c.assumptions-p-items.result.now c.loop-p.p-index (used_value c.loop-p.used) c.loop-p-test.false c.loop-p.invariant.answer)
    c.refused.ensures
