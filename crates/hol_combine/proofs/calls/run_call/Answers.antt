use Rattle.std.proofs.Common.{◌≡◌, true, rules}
use Rattle.hol_goal.specs.ArgumentsView.{args_value}
use Rattle.hol_just.specs.Answering.{are_assumed}
use Rattle.hol_combine.proofs.Calling.{justified_valid}
use Rattle.hol_combine.proofs.calls.run_call.Goals as goal

pub returns-clause-valid : goal.returns-clause-valid
returns-clause-valid g c =
    let assumed : are_assumed (args_value c.args.call.now.args) c.args.goal.now ≡ true = search rules in
    justified_valid (args_value c.args.call.now.args) c.args.goal.now c.call_paid.result assumed c.call_paid.ensures.valid
