use Rattle.std.proofs.Common.{[], ◌∙◌, refl}
use Rattle.hol_terms.specs.Nameless.{nameless}
use Rattle.hol_steps.proofs.ConvertedGoals.{closed_leads, open_leads, step_leads}
use Rattle.hol_steps.proofs.converting.converted_step.Goals as goal

pub returns-then-is_truth-clause-just : goal.returns-then-is_truth-clause-just
returns-then-is_truth-clause-just c =
    closed_leads c.args.goal.now (nameless [] c.args.u.now) c.args.before c.in_ok-closes.closes c.closing.result.just c.if-is_truth.ensures c.in_ok-closes.ensures (c.closing.ensures.just ∙ c.in_ok-then_at.ensures)

pub returns-clause-just : goal.returns-clause-just
returns-clause-just c =
    step_leads c.leaving_one.result c.args.goal.now (nameless [] c.args.u.now) c.args.before c.args.before
    (open_leads c.args.goal.now (nameless [] c.args.u.now) c.args.before c.args.before c.if-is_truth.ensures refl) c.leaving_one.ensures.just
