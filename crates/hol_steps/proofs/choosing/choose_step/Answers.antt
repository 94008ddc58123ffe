use Rattle.std.specs.Prelude.{List, ℕ}
use Rattle.std.proofs.Common.{[], ◌∷◌}
use Rattle.hol_types.specs.Tree.{TypeTree}
use Rattle.hol_terms.specs.Nameless.{free, nameless}
use Rattle.hol_subst.specs.Closing.{open_with}
use Rattle.hol_just.specs.Leaving.{assuming}
use Rattle.hol_just.specs.QuantifierTacs.{terms_by}
use Rattle.hol_just.specs.Justifies.{LeavesChosen}
use Rattle.hol_steps.proofs.FreshSteps.{of_fresh_is, fresh_absent, fresh_goals}
use Rattle.hol_steps.proofs.choosing.choose_step.Goals as goal

pub x_choose_step-requires-clause-same : goal.x_choose_step-requires-clause-same
x_choose_step-requires-clause-same c = c.in_ok-variable.ensures.typed

pub returns-clause-goals : goal.returns-clause-goals
returns-clause-goals c =
    fresh_goals c.args.names.now (terms_by c.args.th.now c.args.goal.now) c.args.x.now c.in_ok-variable.field-0.variable c.in_ok-variable.field-0.tested.items c.in_ok-variable.ensures
    (λ (u : List ℕ × TypeTree). assuming c.args.goal.now (open_with (free u) 0 (nameless (c.args.x.now ∷ []) c.args.p.now)) c.args.goal.now.conclusion) c.in_ok-x_choose_step.field-0.goals.items c.in_ok-x_choose_step.ensures.goals

pub returns-clause-just : goal.returns-clause-just
returns-clause-just c =
    of_fresh_is c.args.names.now (terms_by c.args.th.now c.args.goal.now) c.args.x.now c.in_ok-variable.field-0.variable c.in_ok-variable.field-0.tested.items c.in_ok-variable.ensures (λ (u : List ℕ × TypeTree). LeavesChosen u c.args.th.now c.in_ok-x_choose_step.field-0.just) c.in_ok-x_choose_step.ensures.just

pub returns-clause-absent : goal.returns-clause-absent
returns-clause-absent c =
    fresh_absent c.args.names.now (terms_by c.args.th.now c.args.goal.now) c.args.x.now c.in_ok-variable.field-0.variable c.in_ok-variable.field-0.tested.items c.in_ok-variable.ensures
