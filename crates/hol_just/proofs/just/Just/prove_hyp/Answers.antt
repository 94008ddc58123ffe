use Rattle.hol_just.specs.Justifies.{CutsBy}
use Rattle.hol_just.specs.declared.reason.Reason.TheVariants.{Cut}
use Rattle.hol_just.proofs.Applied.{made_plain}
use Rattle.hol_just.proofs.OneMove.{one}
use Rattle.hol_just.proofs.EliminationMoves.{cut_cuts}
use Rattle.hol_just.proofs.just.Just.prove_hyp.Goals as goal

pub returns : goal.returns
returns c = made_plain c.one.result CutsBy (one Cut) cut_cuts c.one.ensures
