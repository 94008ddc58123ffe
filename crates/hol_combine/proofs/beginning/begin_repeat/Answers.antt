use Rattle.std.proofs.Common.{[], ◌∷◌, reverse}
use Rattle.hol_goal.specs.UsedView.{used_value}
use Rattle.hol_combine.specs.ExprValue.{Repeat, exprs}
use Rattle.hol_combine.specs.Runs.{run}
use Rattle.hol_combine.specs.Work.{work_value}
use Rattle.hol_combine.specs.Pending.{Runs, Goes, by_rounds}
use Rattle.hol_combine.specs.Steps.{steps_by_rounds}
use Rattle.hol_combine.proofs.Begun.{rounds_begun}
use Rattle.hol_combine.proofs.Stepping.{becomes_from}
use Rattle.hol_combine.proofs.beginning.begin_repeat.Goals as goal

pub returns-clause-goes : goal.returns-clause-goes
returns-clause-goes c =
    λ known. becomes_from known (Runs (Repeat c.args.part.now) c.args.goal.now (used_value c.args.used)) (Goes (exprs (c.args.part.now ∷ [])) (by_rounds (run known c.args.part.now)) (steps_by_rounds known c.args.part.now) (work_value c.new.result))
    (reverse c.args.outer.now.items) (reverse c.next_repeated.new.outer.items) c.next_repeated.result
    (rounds_begun known c.args.goal.now (used_value c.args.used) c.args.part.now c.in_ok-ran.ran (work_value c.new.result) c.in_ok-ran.ensures c.new.ensures) (c.next_repeated.ensures.goes known)
