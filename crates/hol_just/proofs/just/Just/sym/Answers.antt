use Rattle.hol_just.specs.Justifies.{TurnsEquation}
use Rattle.hol_just.specs.declared.reason.Reason.TheVariants.{Symmetry}
use Rattle.hol_just.proofs.Applied.{made_plain}
use Rattle.hol_just.proofs.OneMove.{one}
use Rattle.hol_just.proofs.EliminationMoves.{symmetry_turns}
use Rattle.hol_just.proofs.just.Just.sym.Goals as goal

pub returns : goal.returns
returns c = made_plain c.one.result TurnsEquation (one Symmetry) symmetry_turns c.one.ensures
