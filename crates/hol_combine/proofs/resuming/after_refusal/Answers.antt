use Rattle.std.proofs.Common.{[], ◌∷◌, reverse, sym, subst}
use Rattle.hol_goal.specs.UsedView.{used_value}
use Rattle.hol_combine.specs.ExprValue.{First, exprs}
use Rattle.hol_combine.specs.Runs.{run}
use Rattle.hol_combine.specs.RunView.{refusal_value}
use Rattle.hol_combine.specs.Work.{work_value}
use Rattle.hol_combine.specs.Pending.{Runs, Refused, Goes, by_rounds}
use Rattle.hol_combine.specs.Steps.{steps_by_rounds}
use Rattle.hol_combine.specs.Advancing.{GoesFrom}
use Rattle.hol_combine.specs.declared.pending.Pending.{Pending}
use Rattle.hol_combine.specs.declared.pending.Pending.TheVariants as pending
use Rattle.hol_combine.proofs.Continued.{or_else_continued, round_kept}
use Rattle.hol_combine.proofs.Stepping.{resumes_from}
use Rattle.hol_combine.proofs.resuming.after_refusal.Goals as goal

pub returns-in-OrElse-clause-goes : goal.returns-in-OrElse-clause-goes
returns-in-OrElse-clause-goes c =
    λ known. subst (λ (p : Pending). GoesFrom known (p ∷ reverse c.args.outer.now.items) (Refused (refusal_value c.args.why) (used_value c.args.used)) (reverse c.begin_alternatives.new.outer.items) c.begin_alternatives.result) (sym c.in-OrElse.is)
    (resumes_from known (Refused (refusal_value c.args.why) (used_value c.args.used)) (Runs (First (exprs (c.in-OrElse.next.now ∷ c.in-OrElse.more.now))) c.in-OrElse.goal (used_value c.args.used)) (pending.OrElse c.in-OrElse.goal c.in-OrElse.next c.in-OrElse.more)
    (reverse c.args.outer.now.items) (reverse c.begin_alternatives.new.outer.items) c.begin_alternatives.result (or_else_continued known (refusal_value c.args.why) (used_value c.args.used) c.in-OrElse.goal c.in-OrElse.next c.in-OrElse.more) (c.begin_alternatives.ensures.goes known))

pub returns-in-Repeat-clause-goes : goal.returns-in-Repeat-clause-goes
returns-in-Repeat-clause-goes c =
    λ known. subst (λ (p : Pending). GoesFrom known (p ∷ reverse c.args.outer.now.items) (Refused (refusal_value c.args.why) (used_value c.args.used)) (reverse c.next_repeated.new.outer.items) c.next_repeated.result) (sym c.in-Repeat.is)
    (resumes_from known (Refused (refusal_value c.args.why) (used_value c.args.used)) (Goes (exprs (c.in-Repeat.part.now ∷ [])) (by_rounds (run known c.in-Repeat.part.now)) (steps_by_rounds known c.in-Repeat.part.now) (work_value c.keep.new.self)) (pending.Repeat c.in-Repeat.part c.in-Repeat.goal c.in-Repeat.work)
    (reverse c.args.outer.now.items) (reverse c.next_repeated.new.outer.items) c.next_repeated.result
    (round_kept known (refusal_value c.args.why) (used_value c.args.used) c.in-Repeat.part c.in-Repeat.goal c.in-Repeat.work (work_value c.keep.new.self) c.in_ok-keep-in-Repeat.ensures) (c.next_repeated.ensures.goes known))
