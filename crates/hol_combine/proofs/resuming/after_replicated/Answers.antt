use Rattle.std.proofs.Common.{◌≡◌, ◌-◌, ◌++◌, [], ◌∷◌, length, reverse, arith, rules}
use Rattle.hol_combine.specs.ExprValue.{exprs}
use Rattle.hol_combine.specs.Runs.{run}
use Rattle.hol_combine.specs.RunView.{used_by}
use Rattle.hol_combine.specs.Going.{copies}
use Rattle.hol_combine.specs.Work.{work_value}
use Rattle.hol_combine.specs.Pending.{Left, Goes, by_counts}
use Rattle.hol_combine.specs.Steps.{steps_by_counts}
use Rattle.hol_combine.specs.declared.pending.Pending.TheVariants as pending
use Rattle.hol_combine.proofs.Continued.{last_continued, count_continued, counts_wait}
use Rattle.hol_combine.proofs.Stepping.{resumes_from}
use Rattle.hol_combine.proofs.resuming.after_replicated.Goals as goal

pub returns-then-more-eq0-clause-goes : goal.returns-then-more-eq0-clause-goes
returns-then-more-eq0-clause-goes c =
    λ known. resumes_from known (Left c.args.ran.step.goals.items c.args.ran.step.just (used_by c.args.ran)) (Goes (exprs (c.args.part.now ∷ [])) (by_counts (run known c.args.part.now) (reverse c.args.rounds.items)) (steps_by_counts known c.args.part.now (reverse c.args.rounds.items)) (work_value c.finish.new.self))
    (pending.Replicate c.args.part c.args.more c.args.rounds c.args.work) (reverse c.args.outer.now.items) (reverse c.next_replicated.new.outer.items) c.next_replicated.result
    (last_continued known c.args.ran.step.goals.items c.args.ran.step.just (used_by c.args.ran) c.args.part c.args.more c.args.rounds c.args.work (work_value c.finish.new.self) c.if-more-eq0.true c.in_ok-finish.ensures) (c.next_replicated.ensures.goes known)

pub next_replicated-requires-2 : goal.next_replicated-requires-2
next_replicated-requires-2 c =
    let made : reverse c.push_each.new.numbers.items ≡ copies (length c.args.ran.step.goals.items) (c.args.more - 1) ++ reverse c.args.rounds.items = search rules in
    record { waiting = counts_wait c.args.ran.step.goals.items c.args.ran.step.just (used_by c.args.ran) (c.args.more - 1) c.args.rounds.items c.push_each.new.numbers.items (work_value c.args.work) (work_value c.again.new.self) made c.in_ok-again.ensures c.requires.waiting }

pub returns-clause-goes : goal.returns-clause-goes
returns-clause-goes c =
    let made : reverse c.push_each.new.numbers.items ≡ copies (length c.args.ran.step.goals.items) (c.args.more - 1) ++ reverse c.args.rounds.items = search rules in
    λ known. resumes_from known (Left c.args.ran.step.goals.items c.args.ran.step.just (used_by c.args.ran)) (Goes (exprs (c.args.part.now ∷ [])) (by_counts (run known c.args.part.now) (reverse c.push_each.new.numbers.items)) (steps_by_counts known c.args.part.now (reverse c.push_each.new.numbers.items)) (work_value c.again.new.self))
    (pending.Replicate c.args.part c.args.more c.args.rounds c.args.work) (reverse c.args.outer.now.items) (reverse c.next_replicated-2.new.outer.items) c.next_replicated-2.result
    (count_continued known c.args.ran.step.goals.items c.args.ran.step.just (used_by c.args.ran) c.args.part c.args.more (c.args.more - 1) c.args.rounds (reverse c.push_each.new.numbers.items) c.args.work (work_value c.again.new.self) (omega (arith, c.if-more-eq0.false)) made c.in_ok-again.ensures) (c.next_replicated-2.ensures.goes known)
