-- How the logic stores stacks.
use Rattle.std.specs.Prelude.{List, refl}
use Rattle.std.specs.Coded.{Coded, code_by, coded×, coded_list}
use Rattle.hol_kernel.specs.Items.{Items, items_code}
use Rattle.hol_goal.specs.Goal.{GoalValue, goal_code}
use Rattle.hol_stack.specs.StackValue.{StepValue, StackValue}

abbrev pub step_code : Coded StepValue
step_code =
    code_by (List GoalValue × Items) (coded× (coded_list goal_code) items_code)
    (λ s. (s.goals, s.basis))
    (λ p. record { goals = p.0; basis = p.1 })
    (λ _. refl)

abbrev pub stack_code : Coded StackValue
stack_code =
    code_by (GoalValue × (StepValue × List StepValue)) (coded× goal_code (coded× step_code (coded_list step_code)))
    (λ s. (s.goal, (s.newest, s.earlier)))
    (λ p. record { goal = p.0; newest = p.1.0; earlier = p.1.1 })
    (λ _. refl)
