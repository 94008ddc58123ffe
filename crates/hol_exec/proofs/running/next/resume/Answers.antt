use Rattle.std.proofs.Common.{sym, ◌∙◌, ap}
use Rattle.hol_exec.specs.OutcomeView.{outcome_of}
use Rattle.hol_exec.proofs.Free.{leaves_within}
use Rattle.hol_exec.proofs.Histories.{next_stepped, next_rotated}
use Rattle.hol_exec.proofs.Outcomes.{can_step}
use Rattle.hol_exec.proofs.running.next.resume.Goals as goal

pub step_with-requires-clause-step : goal.step_with-requires-clause-step
step_with-requires-clause-step c =
    can_step _ _ (c.promise.ensures.theory, c.promise.ensures.free, c.promise.ensures.within) c.requires.at _ _ _ _ (sym c.change.ensures.change ∙ ap outcome_of c.in-Leaves.is) (rw c.in-Leaves.is at c.change.ensures.valid)

pub step_with-requires-clause-within : goal.step_with-requires-clause-within
step_with-requires-clause-within c =
    leaves_within _ _ (c.promise.ensures.theory, c.promise.ensures.free, c.promise.ensures.within) c.requires.at _ _ _ (sym c.change.ensures.change ∙ ap outcome_of c.in-Leaves.is)

pub step_with-requires-clause-next : goal.step_with-requires-clause-next
step_with-requires-clause-next c =
    next_stepped c.args.state.now c.args.outcome.now c.args.opened.now c.in-Some.next c.in-Some.is c.requires.opened _ _ _ (sym c.change.ensures.change ∙ ap outcome_of c.in-Leaves.is)

pub rotate_with-requires-clause-next : goal.rotate_with-requires-clause-next
rotate_with-requires-clause-next c =
    next_rotated c.args.state.now c.args.outcome.now c.args.opened.now c.in-Some.next c.in-Some.is c.requires.opened _ (sym c.change.ensures.change ∙ ap outcome_of c.in-Rotates.is)
