use Rattle.std.proofs.Common.{◌≡◌, ◌-◌, List, ℕ, [], ◌∷◌, reverse, ap, arith, rules}
use Rattle.hol_goal.specs.UsedView.{used_value}
use Rattle.hol_combine.specs.ExprValue.{Replicate, exprs}
use Rattle.hol_combine.specs.Runs.{run}
use Rattle.hol_combine.specs.Work.{work_value}
use Rattle.hol_combine.specs.Pending.{Runs, Goes, by_counts}
use Rattle.hol_combine.specs.Steps.{steps_by_counts}
use Rattle.hol_combine.proofs.Begun.{counts_begun}
use Rattle.hol_combine.proofs.Stepping.{becomes_from}
use Rattle.hol_combine.proofs.beginning.begin_replicate.Goals as goal

pub returns-clause-goes : goal.returns-clause-goes
returns-clause-goes c =
    let one : c.push.new.self.items ≡ (c.args.times - 1) ∷ [] = search rules in
    λ known. becomes_from known (Runs (Replicate c.args.times c.args.part.now) c.args.goal.now (used_value c.args.used))
    (Goes (exprs (c.args.part.now ∷ [])) (by_counts (run known c.args.part.now) (reverse c.push.new.self.items)) (steps_by_counts known c.args.part.now (reverse c.push.new.self.items)) (work_value c.new.result))
    (reverse c.args.outer.now.items) (reverse c.next_replicated.new.outer.items) c.next_replicated.result
    (counts_begun known c.args.goal.now (used_value c.args.used) c.args.part.now c.args.times (c.args.times - 1) (reverse c.push.new.self.items) c.in_ok-ran.ran (work_value c.new.result) (omega (arith, c.if-times-eq0.false)) (ap (λ (l : List ℕ). reverse l) one) c.in_ok-ran.ensures c.new.ensures)
    (c.next_replicated.ensures.goes known)
