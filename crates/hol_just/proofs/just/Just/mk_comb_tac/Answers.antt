use Rattle.hol_just.specs.Justifies.{SplitsApplications}
use Rattle.hol_just.specs.declared.reason.Reason.TheVariants.{Combination}
use Rattle.hol_just.proofs.Applied.{made_plain}
use Rattle.hol_just.proofs.OneMove.{one}
use Rattle.hol_just.proofs.EquationRules.{combination_splits}
use Rattle.hol_just.proofs.just.Just.mk_comb_tac.Goals as goal

pub returns : goal.returns
returns c = made_plain c.one.result SplitsApplications (one Combination) combination_splits c.one.ensures
