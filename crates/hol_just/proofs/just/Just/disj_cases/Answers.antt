use Rattle.hol_just.specs.Justifies.{SplitsByCases}
use Rattle.hol_just.specs.declared.reason.Reason.TheVariants.{Cases}
use Rattle.hol_just.proofs.Applied.{made_plain}
use Rattle.hol_just.proofs.OneMove.{one}
use Rattle.hol_just.proofs.EliminationMoves.{cases_split}
use Rattle.hol_just.proofs.just.Just.disj_cases.Goals as goal

pub returns : goal.returns
returns c = made_plain c.one.result SplitsByCases (one Cases) cases_split c.one.ensures
