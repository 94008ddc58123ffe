-- The value that a report of the program stands for.
use Rattle.std.specs.Prelude.{map, string_bytes}
use Rattle.hol_print.specs.ShowGoal.{goal_text}
use Rattle.hol_exec.specs.declared.reports.report.Report.{Report}
use Rattle.hol_exec.specs.declared.reports.report.Report.TheVariants as code
use Rattle.hol_exec.specs.ReportValue.{ReportValue, ShowsGoals, HasMade, WasRefused}

abbrev pub report_value : Report → ReportValue
report_value (code.Goals goals) = ShowsGoals (map goal_text goals.items)
report_value (code.Made texts) = HasMade (map string_bytes texts.items)
report_value (code.Refusal kind arg) = WasRefused kind (string_bytes arg)
