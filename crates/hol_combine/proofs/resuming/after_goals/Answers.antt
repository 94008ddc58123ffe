-- Of each form of what is pending: what goes on where the part left goals.
use Rattle.std.proofs.Common.{◌++◌, [], ◌∷◌, reverse, sym, subst}
use Rattle.hol_combine.specs.ExprValue.{exprs}
use Rattle.hol_combine.specs.Runs.{run}
use Rattle.hol_combine.specs.RunView.{used_by}
use Rattle.hol_combine.specs.Work.{work_value}
use Rattle.hol_combine.specs.Pending.{Left, Goes, through, in_place, by_rounds}
use Rattle.hol_combine.specs.Steps.{steps_through, steps_by_places, steps_by_rounds}
use Rattle.hol_combine.specs.Advancing.{GoesFrom}
use Rattle.hol_combine.specs.declared.pending.Pending.{Pending}
use Rattle.hol_combine.specs.declared.pending.Pending.TheVariants as pending
use Rattle.hol_combine.proofs.Continued.{then_continued, each_continued, places_continued, round_continued}
use Rattle.hol_combine.proofs.Stepping.{resumes_from}
use Rattle.hol_combine.proofs.resuming.after_goals.Goals as goal

pub returns-in-Then-clause-goes : goal.returns-in-Then-clause-goes
returns-in-Then-clause-goes c =
    λ known. subst (λ (p : Pending). GoesFrom known (p ∷ reverse c.args.outer.now.items) (Left c.args.ran.step.goals.items c.args.ran.step.just (used_by c.args.ran)) (reverse c.next_of_each.new.outer.items) c.next_of_each.result) (sym c.in-Then.is)
    (resumes_from known (Left c.args.ran.step.goals.items c.args.ran.step.just (used_by c.args.ran)) (Goes (exprs (c.in-Then.parts.now ++ c.in-Then.more.now)) (through known c.in-Then.parts.now c.in-Then.more.now) (steps_through known c.in-Then.parts.now c.in-Then.more.now) (work_value c.new.result)) (pending.Then c.in-Then.parts c.in-Then.more) (reverse c.args.outer.now.items) (reverse c.next_of_each.new.outer.items) c.next_of_each.result
    (then_continued known c.args.ran.step.goals.items c.args.ran.step.just (used_by c.args.ran) c.in-Then.parts c.in-Then.more (work_value c.new.result) c.new.ensures) (c.next_of_each.ensures.goes known))

pub returns-in-Each-clause-goes : goal.returns-in-Each-clause-goes
returns-in-Each-clause-goes c =
    λ known. subst (λ (p : Pending). GoesFrom known (p ∷ reverse c.args.outer.now.items) (Left c.args.ran.step.goals.items c.args.ran.step.just (used_by c.args.ran)) (reverse c.next_of_each-in-Each.new.outer.items) c.next_of_each-in-Each.result) (sym c.in-Each.is)
    (resumes_from known (Left c.args.ran.step.goals.items c.args.ran.step.just (used_by c.args.ran)) (Goes (exprs (c.in-Each.parts.now ++ c.in-Each.more.now)) (through known c.in-Each.parts.now c.in-Each.more.now) (steps_through known c.in-Each.parts.now c.in-Each.more.now) (work_value c.finish.new.self)) (pending.Each c.in-Each.parts c.in-Each.more c.in-Each.work) (reverse c.args.outer.now.items) (reverse c.next_of_each-in-Each.new.outer.items) c.next_of_each-in-Each.result
    (each_continued known c.args.ran.step.goals.items c.args.ran.step.just (used_by c.args.ran) c.in-Each.parts c.in-Each.more c.in-Each.work (work_value c.finish.new.self) c.in_ok-finish-in-Each.ensures) (c.next_of_each-in-Each.ensures.goes known))

pub returns-in-ThenL-clause-goes : goal.returns-in-ThenL-clause-goes
returns-in-ThenL-clause-goes c =
    λ known. subst (λ (p : Pending). GoesFrom known (p ∷ reverse c.args.outer.now.items) (Left c.args.ran.step.goals.items c.args.ran.step.just (used_by c.args.ran)) (reverse c.begin_places.new.outer.items) c.begin_places.result) (sym c.in-ThenL.is)
    (c.begin_places.ensures.goes known)

pub returns-in-Places-clause-goes : goal.returns-in-Places-clause-goes
returns-in-Places-clause-goes c =
    λ known. subst (λ (p : Pending). GoesFrom known (p ∷ reverse c.args.outer.now.items) (Left c.args.ran.step.goals.items c.args.ran.step.just (used_by c.args.ran)) (reverse c.next_in_place.new.outer.items) c.next_in_place.result) (sym c.in-Places.is)
    (resumes_from known (Left c.args.ran.step.goals.items c.args.ran.step.just (used_by c.args.ran)) (Goes (exprs c.in-Places.parts.now) (in_place known c.in-Places.parts.now) (steps_by_places known c.in-Places.parts.now) (work_value c.finish-in-Places.new.self)) (pending.Places c.in-Places.parts c.in-Places.work)
    (reverse c.args.outer.now.items) (reverse c.next_in_place.new.outer.items) c.next_in_place.result (places_continued known c.args.ran.step.goals.items c.args.ran.step.just (used_by c.args.ran) c.in-Places.parts c.in-Places.work (work_value c.finish-in-Places.new.self) c.in_ok-finish-in-Places.ensures) (c.next_in_place.ensures.goes known))

pub returns-in-Changed-clause-goes : goal.returns-in-Changed-clause-goes
returns-in-Changed-clause-goes c =
    λ known. subst (λ (p : Pending). GoesFrom known (p ∷ reverse c.args.outer.now.items) (Left c.args.ran.step.goals.items c.args.ran.step.just (used_by c.args.ran)) (reverse c.args.outer.now.items) c.end_changed.result) (sym c.in-Changed.is)
    (c.end_changed.ensures.goes known (reverse c.args.outer.now.items))

pub returns-in-Repeat-clause-goes : goal.returns-in-Repeat-clause-goes
returns-in-Repeat-clause-goes c =
    λ known. subst (λ (p : Pending). GoesFrom known (p ∷ reverse c.args.outer.now.items) (Left c.args.ran.step.goals.items c.args.ran.step.just (used_by c.args.ran)) (reverse c.next_repeated.new.outer.items) c.next_repeated.result) (sym c.in-Repeat.is)
    (resumes_from known (Left c.args.ran.step.goals.items c.args.ran.step.just (used_by c.args.ran)) (Goes (exprs (c.in-Repeat.part.now ∷ [])) (by_rounds (run known c.in-Repeat.part.now)) (steps_by_rounds known c.in-Repeat.part.now) (work_value c.again.new.self)) (pending.Repeat c.in-Repeat.part c.in-Repeat.goal c.in-Repeat.work)
    (reverse c.args.outer.now.items) (reverse c.next_repeated.new.outer.items) c.next_repeated.result (round_continued known c.args.ran.step.goals.items c.args.ran.step.just (used_by c.args.ran) c.in-Repeat.part c.in-Repeat.goal c.in-Repeat.work (work_value c.again.new.self) c.in_ok-again-in-Repeat.ensures) (c.next_repeated.ensures.goes known))

pub returns-clause-goes : goal.returns-clause-goes
returns-clause-goes c =
    λ known. subst (λ (p : Pending). GoesFrom known (p ∷ reverse c.args.outer.now.items) (Left c.args.ran.step.goals.items c.args.ran.step.just (used_by c.args.ran)) (reverse c.after_replicated.new.outer.items) c.after_replicated.result) (sym c.in-Replicate.is)
    (c.after_replicated.ensures.goes known)
