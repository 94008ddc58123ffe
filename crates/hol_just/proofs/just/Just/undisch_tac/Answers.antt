use Rattle.hol_just.specs.Justifies.{TakesOut}
use Rattle.hol_just.specs.declared.reason.Reason.TheVariants.{Undischarge}
use Rattle.hol_just.proofs.Applied.{made_plain}
use Rattle.hol_just.proofs.OneMove.{one}
use Rattle.hol_just.proofs.ConnectiveRules.{undischarge_takes_out}
use Rattle.hol_just.proofs.just.Just.undisch_tac.Goals as goal

pub returns : goal.returns
returns c = made_plain c.one.result TakesOut (one Undischarge) undischarge_takes_out c.one.ensures
