use Rattle.hol_exec.proofs.Runs.{refused_as, out_of_turns_as, large_as}
use Rattle.hol_exec.proofs.running.run.not_left.Goals as goal

pub returns-in-Refused : goal.returns-in-Refused
returns-in-Refused c = λ run names goal basis h. refused_as names goal basis run c.args.error c.in-Refused.refusal _ c.in-Refused.tested c.refused_by.result c.in-Refused.is c.refused_by.ensures h

pub returns-in-TurnLimit : goal.returns-in-TurnLimit
returns-in-TurnLimit c = λ run names goal basis h. out_of_turns_as names goal basis run c.args.error c.in-TurnLimit.tested c.refused.result c.in-TurnLimit.is c.refused.ensures h

pub returns-in-LargeGoal : goal.returns-in-LargeGoal
returns-in-LargeGoal c = λ run names goal basis h. large_as names goal basis run c.args.error c.in-LargeGoal.tested c.refused-in-LargeGoal.result c.in-LargeGoal.is c.refused-in-LargeGoal.ensures h
