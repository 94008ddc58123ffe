use Rattle.hol_just.specs.Justifies.{LeavesConjunctionLeft}
use Rattle.hol_just.specs.declared.reason.Reason.TheVariants.{RightConjunct}
use Rattle.hol_just.proofs.Applied.{made_plain}
use Rattle.hol_just.proofs.OneMove.{one}
use Rattle.hol_just.proofs.EliminationMoves.{right_conjunct_leaves}
use Rattle.hol_just.proofs.just.Just.conjunct2.Goals as goal

pub returns : goal.returns
returns c = made_plain c.one.result LeavesConjunctionLeft (one RightConjunct) right_conjunct_leaves c.one.ensures
