use Rattle.hol_just.specs.Justifies.{LeavesConverted}
use Rattle.hol_just.specs.declared.reason.Reason.TheVariants.{Conversion}
use Rattle.hol_just.proofs.Applied.{made_as}
use Rattle.hol_just.proofs.OneMove.{one}
use Rattle.hol_just.proofs.ConversionMoves.{conversion_leaves}
use Rattle.hol_just.proofs.just.Just.conversion.Goals as goal

pub returns : goal.returns
returns c =
    made_as c.one.result (LeavesConverted c.args.trace.now) (λ t. one (Conversion t)) c.args.trace.now c.in_ok-own.own (conversion_leaves c.args.trace.now c.keeps_types.ensures) c.in_ok-own.ensures
    c.one.ensures
