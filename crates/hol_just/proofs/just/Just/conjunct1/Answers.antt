use Rattle.hol_just.specs.Justifies.{LeavesConjunctionRight}
use Rattle.hol_just.specs.declared.reason.Reason.TheVariants.{LeftConjunct}
use Rattle.hol_just.proofs.Applied.{made_plain}
use Rattle.hol_just.proofs.OneMove.{one}
use Rattle.hol_just.proofs.EliminationMoves.{left_conjunct_leaves}
use Rattle.hol_just.proofs.just.Just.conjunct1.Goals as goal

pub returns : goal.returns
returns c = made_plain c.one.result LeavesConjunctionRight (one LeftConjunct) left_conjunct_leaves c.one.ensures
