use Rattle.std.proofs.Common.{[], subst}
use Rattle.hol_terms.specs.Nameless.{Nameless, nameless}
use Rattle.hol_just.specs.Justifies.{LeavesAtWitness}
use Rattle.hol_steps.proofs.Kept.{step_keeps}
use Rattle.hol_steps.proofs.quantifiers.exists_step.Goals as goal

pub returns-clause-just : goal.returns-clause-just
returns-clause-just c =
    step_keeps c.leaving_one.result (LeavesAtWitness c.args.goal.now.conclusion (nameless [] c.args.t.now)) c.in_ok-just.just
    (subst (λ (w : Nameless). LeavesAtWitness w (nameless [] c.args.t.now) c.in_ok-just.just) c.conclusion.ensures.term c.in_ok-just.ensures) c.leaving_one.ensures.just
