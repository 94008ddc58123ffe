use Rattle.std.proofs.Common.{[], ◌∷◌, reverse}
use Rattle.std.proofs.lemmas.Result.{err_from_is_err_and}
use Rattle.hol_goal.specs.UsedView.{used_value}
use Rattle.hol_combine.specs.ExprValue.{exprs}
use Rattle.hol_combine.specs.Runs.{run}
use Rattle.hol_combine.specs.Work.{work_value}
use Rattle.hol_combine.specs.Pending.{Runs, Goes, by_rounds}
use Rattle.hol_combine.specs.Steps.{steps_by_rounds}
use Rattle.hol_combine.proofs.Begun.{round_begun, round_stops}
use Rattle.hol_combine.proofs.Paying.{paid_is}
use Rattle.hol_combine.proofs.Stepping.{pushes, stops_by}
use Rattle.hol_combine.proofs.pursuing.next_repeated.Goals as goal

pub returns-in_err-used-clause-goes : goal.returns-in_err-used-clause-goes
returns-in_err-used-clause-goes c =
    let p = err_from_is_err_and c.from_residual.result c.from_residual.ensures.1 in
    λ known. stops_by known (Goes (exprs (c.args.part.now ∷ [])) (by_rounds (run known c.args.part.now)) (steps_by_rounds known c.args.part.now) (work_value c.args.work)) (reverse c.args.outer.now.items) (reverse c.args.outer.now.items) c.from_residual.result p.0 _ p.1 p.2
    (round_stops known (work_value c.args.work) c.in-Some.goal (used_value c.in-Some.used) c.next.new.self c.in-Some.ensures c.args.part.now _ c.in_err-used.ensures.none.0 c.in_err-used.ensures.none.1)

pub returns-clause-goes : goal.returns-clause-goes
returns-clause-goes c =
    λ known. pushes known (Goes (exprs (c.args.part.now ∷ [])) (by_rounds (run known c.args.part.now)) (steps_by_rounds known c.args.part.now) (work_value c.args.work))
    _ c.args.outer.now.items c.push.new.self.items c.in_ok-push.ensures.items (Runs c.args.part.now c.in-Some.goal (used_value c.in_ok-used.used))
    (round_begun known (work_value c.args.work) c.in-Some.goal (used_value c.in-Some.used) c.next.new.self c.in-Some.ensures c.args.part _ (used_value c.in_ok-used.used) c.in_ok-copy.ensures (paid_is (used_value c.in-Some.used) c.in_ok-used.used c.in_ok-used.ensures.paid c.in_ok-used.ensures.tested))
