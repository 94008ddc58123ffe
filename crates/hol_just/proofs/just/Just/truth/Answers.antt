use Rattle.hol_just.specs.Justifies.{ClosesTruth}
use Rattle.hol_just.specs.declared.reason.Reason.TheVariants.{Truth}
use Rattle.hol_just.proofs.Applied.{made_plain}
use Rattle.hol_just.proofs.OneMove.{one}
use Rattle.hol_just.proofs.ConversionMoves.{truth_closes}
use Rattle.hol_just.proofs.just.Just.truth.Goals as goal

pub returns : goal.returns
returns c = made_plain c.one.result ClosesTruth (one Truth) truth_closes c.one.ensures
