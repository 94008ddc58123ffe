use Rattle.std.proofs.Common.{◌≡◌, ◌-◌, ◌++◌, ◌∷◌, length, drop, take, reverse, arith}
use Rattle.hol_goal.specs.UsedView.{used_value}
use Rattle.hol_combine.specs.ExprValue.{Every, exprs}
use Rattle.hol_combine.specs.RunView.{used_by}
use Rattle.hol_combine.specs.Work.{work_value}
use Rattle.hol_combine.specs.Pending.{Runs, Left, Goes, through}
use Rattle.hol_combine.specs.Steps.{steps_through}
use Rattle.hol_combine.proofs.Begun.{each_begun, more_begun, through_ends, none_in}
use Rattle.hol_combine.proofs.Lists.{split}
use Rattle.hol_combine.proofs.Stepping.{becomes_ok, pushes, pushes_from}
use Rattle.hol_combine.proofs.pursuing.next_of_each.Goals as goal

-- the next goal
pub returns-in-Some-clause-goes : goal.returns-in-Some-clause-goes
returns-in-Some-clause-goes c =
    λ known. pushes_from known (Goes (exprs (c.args.parts.now ++ c.args.more.now)) (through known c.args.parts.now c.args.more.now) (steps_through known c.args.parts.now c.args.more.now) (work_value c.args.work))
    _ c.args.outer.now.items c.push.new.self.items c.in_ok-push.ensures.items (Runs (Every (exprs c.args.parts.now)) c.in-Some.goal (used_value c.in-Some.used)) (reverse c.begin_every.new.outer.items) c.begin_every.result
    (each_begun known (work_value c.args.work) c.in-Some.goal (used_value c.in-Some.used) c.next.new.self c.in-Some.ensures c.args.parts c.args.more) (c.begin_every.ensures.goes known)

-- none waits, and that is all
pub returns-in_default-more-clause-goes : goal.returns-in_default-more-clause-goes
returns-in_default-more-clause-goes c =
    λ known. becomes_ok known (Goes (exprs (c.args.parts.now ++ c.args.more.now)) (through known c.args.parts.now c.args.more.now) (steps_through known c.args.parts.now c.args.more.now) (work_value c.args.work))
    (reverse c.args.outer.now.items) (Left c.end.result.step.goals.items c.end.result.step.just (used_by c.end.result))
    (through_ends known (work_value c.args.work) (work_value c.next.new.self) c.end.result c.in_default.ensures c.end.ensures.goals c.end.ensures.just c.end.ensures.used c.args.parts c.args.more (none_in c.args.more.now (omega (arith, c.in_default-more.len_below))))

-- none waits, and a chain goes on
pub returns-clause-goes : goal.returns-clause-goes
returns-clause-goes c =
    let is : c.args.more.now ≡ c.next-item.result ∷ take (length c.args.more.now - 1) (drop 1 c.args.more.now) = split c.args.more.now c.next-item.result (omega (arith, c.in-len1-up.len_at_least)) c.next-item.is in
    λ known. pushes known (Goes (exprs (c.args.parts.now ++ c.args.more.now)) (through known c.args.parts.now c.args.more.now) (steps_through known c.args.parts.now c.args.more.now) (work_value c.args.work))
    _ c.args.outer.now.items c.push-2.new.self.items c.in_ok-push-2.ensures.items (Left c.end-2.result.step.goals.items c.end-2.result.step.just (used_by c.end-2.result))
    (more_begun known (work_value c.args.work) (work_value c.next.new.self) c.end-2.result c.in_default.ensures c.end-2.ensures.goals c.end-2.ensures.just c.end-2.ensures.used c.args.parts c.args.more c.from_ref.result _ c.next-item.result is c.from_ref.ensures.value)
