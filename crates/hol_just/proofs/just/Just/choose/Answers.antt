use Rattle.hol_terms.specs.Named.{var}
use Rattle.hol_just.specs.Justifies.{SplitsByExistence}
use Rattle.hol_just.specs.declared.reason.Reason.TheVariants.{Choice}
use Rattle.hol_just.proofs.Applied.{made_as}
use Rattle.hol_just.proofs.OneMove.{one}
use Rattle.hol_just.proofs.EliminationMoves.{choice_splits}
use Rattle.hol_just.proofs.just.Just.choose.Goals as goal

pub returns : goal.returns
returns c = made_as c.one.result (SplitsByExistence c.args.v.now) (λ t. one (Choice t)) (var c.args.v.now) c.in_ok-variable.variable (choice_splits c.args.v.now) c.in_ok-variable.ensures.is c.one.ensures
