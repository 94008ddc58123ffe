use Rattle.hol_just.specs.Justifies.{SplitsConjunction}
use Rattle.hol_just.specs.declared.reason.Reason.TheVariants.{Conjunction}
use Rattle.hol_just.proofs.Applied.{made_plain}
use Rattle.hol_just.proofs.OneMove.{one}
use Rattle.hol_just.proofs.ConnectiveRules.{conjunction_splits}
use Rattle.hol_just.proofs.just.Just.conj_tac.Goals as goal

pub returns : goal.returns
returns c = made_plain c.one.result SplitsConjunction (one Conjunction) conjunction_splits c.one.ensures
