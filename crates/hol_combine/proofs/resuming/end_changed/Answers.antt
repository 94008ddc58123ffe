use Rattle.std.proofs.Common.{◌≡◌, ◌∷◌, true, codes, sym, subst, arith, rules, Result}
use Rattle.hol_combine.specs.Runs.{is_just}
use Rattle.hol_combine.specs.RunView.{used_by}
use Rattle.hol_combine.specs.Pending.{Left}
use Rattle.hol_combine.specs.Advancing.{GoesFrom}
use Rattle.hol_combine.specs.declared.pending.Pending.TheVariants as pending
use Rattle.hol_combine.specs.declared.pending.Reached.{Reached}
use Rattle.hol_combine.specs.declared.ran.RunError.{RunError}
use Rattle.hol_combine.proofs.Continued.{changed_refuses}
use Rattle.hol_combine.proofs.Stepping.{refusal_goes}
use Rattle.hol_combine.proofs.resuming.end_changed.Goals as goal

pub returns-then-is_just-clause-goes : goal.returns-then-is_just-clause-goes
returns-then-is_just-clause-goes c =
    let same : is_just c.args.goal c.args.ran.step.goals.items ≡ true = search rules in
    λ known outer. subst (λ (r : Result Reached RunError). GoesFrom known (pending.Changed c.args.goal ∷ outer) (Left c.args.ran.step.goals.items c.args.ran.step.just (used_by c.args.ran)) outer r) (sym c.ended.ensures)
    (refusal_goes known (pending.Changed c.args.goal) c.args.ran.step.goals.items c.args.ran.step.just (used_by c.args.ran) (codes "CHANGED_TAC") outer c.refused.result (omega arith) (changed_refuses known c.args.ran.step.goals.items c.args.ran.step.just (used_by c.args.ran) c.args.goal same) c.refused.ensures)
