use Rattle.std.proofs.Common.{[], ap}
use Rattle.hol_goal.specs.ArgumentsView.{args_value}
use Rattle.hol_tac.proofs.GivenTo.{none_used, justified_by_none}
use Rattle.hol_tac.proofs.converting.beta_tac.Goals as goal

pub returns-clause-valid : goal.returns-clause-valid
returns-clause-valid c =
    justified_by_none (args_value c.args.args.now) c.args.goal.now c.converted.result (ap args_value c.in-Nothing.is) (c.converted.ensures.valid [] (none_used c.beta_all-outcome.result c.beta_all-outcome.ensures.used))
