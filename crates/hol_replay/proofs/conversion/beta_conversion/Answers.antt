use Rattle.std.proofs.lemmas.Result.{IfOk-weaker}
use Rattle.hol_replay.proofs.Reductions.{replayed}
use Rattle.hol_replay.proofs.conversion.beta_conversion.Goals as goal

pub returns-in-Ok : goal.returns-in-Ok
returns-in-Ok c =
    IfOk-weaker c.replay.result _ _ (λ th e. replayed c.args.basis.now c.args.turns c.args.term.now c.requires c.in-Ok.reduced c.in-Ok.ensures.traced c.in-Ok.ensures.used th c.in-Ok.ensures.tells e) c.replay.ensures
