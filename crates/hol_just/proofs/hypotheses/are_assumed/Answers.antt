use Rattle.hol_goal.specs.ArgumentsView.{args_value}
use Rattle.hol_just.proofs.Assumed.{nothing_left}
use Rattle.hol_just.proofs.hypotheses.are_assumed.Goals as goal

pub returns-clause-left : goal.returns-clause-left
returns-clause-left c = nothing_left (args_value c.args.args.now) c.args.goal.now c.are_args_assumed.result c.are_args_assumed.ensures
