use Rattle.std.proofs.Common.{◌≡◌, map, take}
use Rattle.hol_print.specs.ShowGoal.{goal_text}
use Rattle.hol_exec.specs.ReportOf.{shown_goal}
use Rattle.hol_exec.proofs.reports.reporting.shown_goals.Given as goal

abbrev pub invariant-loop-goal : goal.invariant-loop-goal
invariant-loop-goal l = map goal_text l.shown.items ≡ map shown_goal (take l.goal-index l.goals)
