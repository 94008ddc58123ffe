use Rattle.hol_just.specs.Justifies.{SplitsByImplication}
use Rattle.hol_just.specs.declared.reason.Reason.TheVariants.{ModusPonens}
use Rattle.hol_just.proofs.Applied.{made_plain}
use Rattle.hol_just.proofs.OneMove.{one}
use Rattle.hol_just.proofs.ConnectiveRules.{modus_ponens_splits}
use Rattle.hol_just.proofs.just.Just.mp.Goals as goal

pub returns : goal.returns
returns c = made_plain c.one.result SplitsByImplication (one ModusPonens) modus_ponens_splits c.one.ensures
