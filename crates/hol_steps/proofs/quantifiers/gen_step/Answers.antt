use Rattle.std.specs.Prelude.{List, ℕ}
use Rattle.std.proofs.Common.{[], ◌∷◌}
use Rattle.hol_types.specs.Tree.{TypeTree}
use Rattle.hol_terms.specs.Nameless.{free, nameless}
use Rattle.hol_subst.specs.Closing.{open_with}
use Rattle.hol_just.specs.Leaving.{concluding, goal_terms}
use Rattle.hol_just.specs.Justifies.{LeavesProperty}
use Rattle.hol_steps.proofs.FreshSteps.{of_fresh_is, fresh_absent, fresh_goals}
use Rattle.hol_steps.proofs.quantifiers.gen_step.Goals as goal

pub x_gen_step-requires-clause-same : goal.x_gen_step-requires-clause-same
x_gen_step-requires-clause-same c = c.in_ok-variable.ensures.typed

pub returns-clause-goals : goal.returns-clause-goals
returns-clause-goals c =
    fresh_goals c.args.names.now (goal_terms c.args.goal.now) c.args.x.now c.in_ok-variable.field-0.variable c.in_ok-variable.field-0.tested.items c.in_ok-variable.ensures
    (λ (u : List ℕ × TypeTree). concluding c.args.goal.now (open_with (free u) 0 (nameless (c.args.x.now ∷ []) c.args.p.now))) c.in_ok-x_gen_step.field-0.goals.items c.in_ok-x_gen_step.ensures.goals

pub returns-clause-just : goal.returns-clause-just
returns-clause-just c =
    of_fresh_is c.args.names.now (goal_terms c.args.goal.now) c.args.x.now c.in_ok-variable.field-0.variable c.in_ok-variable.field-0.tested.items c.in_ok-variable.ensures (λ (u : List ℕ × TypeTree). LeavesProperty u c.in_ok-x_gen_step.field-0.just) c.in_ok-x_gen_step.ensures.just

pub returns-clause-absent : goal.returns-clause-absent
returns-clause-absent c =
    fresh_absent c.args.names.now (goal_terms c.args.goal.now) c.args.x.now c.in_ok-variable.field-0.variable c.in_ok-variable.field-0.tested.items c.in_ok-variable.ensures
