use Rattle.hol_just.specs.Justifies.{ClosesByGiven}
use Rattle.hol_just.specs.declared.reason.Reason.TheVariants.{Premise}
use Rattle.hol_just.proofs.Applied.{made_as}
use Rattle.hol_just.proofs.OneMove.{one}
use Rattle.hol_just.proofs.EquationRules.{premise_closes}
use Rattle.hol_just.proofs.just.Just.accept_tac.Goals as goal

pub returns : goal.returns
returns c =
    made_as c.one.result (ClosesByGiven c.args.th.now) (λ t. one (Premise t)) c.args.th.now c.in_ok-copy.field-0 (premise_closes c.args.th.now) c.in_ok-copy.ensures c.one.ensures
