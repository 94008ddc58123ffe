-- What a client is told of a command: the open goals after it, what it made, or why it was refused.
-- Source: this project.
use Rattle.std.specs.Prelude.{ℕ, List}
use Rattle.hol_print.specs.ShowGoal.{GoalText}
use Rattle.hol_exec.specs.declared.reports.refusal.RefusalKind.{RefusalKind}

pub data ReportValue : Type 0 where
  ShowsGoals : List GoalText → ReportValue
  HasMade : List (List ℕ) → ReportValue
  WasRefused : RefusalKind → List ℕ → ReportValue
