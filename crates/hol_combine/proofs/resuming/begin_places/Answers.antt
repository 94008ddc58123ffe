use Rattle.std.proofs.Common.{◌≡◌, ◌∷◌, length, codes, reverse, sym, subst, arith, Result}
use Rattle.hol_combine.specs.ExprValue.{exprs}
use Rattle.hol_combine.specs.RunView.{used_by}
use Rattle.hol_combine.specs.Work.{work_value}
use Rattle.hol_combine.specs.Pending.{Left, Goes, in_place}
use Rattle.hol_combine.specs.Steps.{steps_by_places}
use Rattle.hol_combine.specs.Advancing.{GoesFrom}
use Rattle.hol_combine.specs.declared.pending.Pending.TheVariants as pending
use Rattle.hol_combine.specs.declared.pending.Reached.{Reached}
use Rattle.hol_combine.specs.declared.ran.RunError.{RunError}
use Rattle.hol_combine.proofs.Continued.{then_list_continued, then_list_refuses}
use Rattle.hol_combine.proofs.Stepping.{refusal_goes, resumes_from}
use Rattle.hol_combine.proofs.resuming.begin_places.Goals as goal

pub returns-then-parts-len-clause-goes : goal.returns-then-parts-len-clause-goes
returns-then-parts-len-clause-goes c =
    let apart : length c.args.parts.now ≡ length c.args.ran.step.goals.items → ⊥ = λ e. absurd (omega (arith, e, c.if-parts-len.true, c.len.ensures)) in
    λ known. subst (λ (r : Result Reached RunError). GoesFrom known (pending.ThenL c.args.parts ∷ reverse c.args.outer.now.items) (Left c.args.ran.step.goals.items c.args.ran.step.just (used_by c.args.ran)) (reverse c.args.outer.now.items) r) (sym c.ended.ensures)
    (refusal_goes known (pending.ThenL c.args.parts) c.args.ran.step.goals.items c.args.ran.step.just (used_by c.args.ran) (codes "THENL") (reverse c.args.outer.now.items) c.refused.result (omega arith) (then_list_refuses known c.args.ran.step.goals.items c.args.ran.step.just (used_by c.args.ran) c.args.parts apart) c.refused.ensures)

pub returns-clause-goes : goal.returns-clause-goes
returns-clause-goes c =
    let same : length c.args.parts.now ≡ length c.args.ran.step.goals.items = omega (arith, c.if-parts-len.false, c.len.ensures) in
    λ known. resumes_from known (Left c.args.ran.step.goals.items c.args.ran.step.just (used_by c.args.ran)) (Goes (exprs c.args.parts.now) (in_place known c.args.parts.now) (steps_by_places known c.args.parts.now) (work_value c.new.result)) (pending.ThenL c.args.parts)
    (reverse c.args.outer.now.items) (reverse c.next_in_place.new.outer.items) c.next_in_place.result (then_list_continued known c.args.ran.step.goals.items c.args.ran.step.just (used_by c.args.ran) c.args.parts (work_value c.new.result) same c.new.ensures) (c.next_in_place.ensures.goes known)
