use Rattle.hol_terms.specs.Nameless.{nameless}
use Rattle.std.proofs.Common.{[]}
use Rattle.hol_just.specs.Justifies.{LeavesConsequent}
use Rattle.hol_just.specs.declared.reason.Reason.TheVariants.{Discharge}
use Rattle.hol_just.proofs.Applied.{made_as}
use Rattle.hol_just.proofs.OneMove.{one}
use Rattle.hol_just.proofs.ConnectiveRules.{discharge_leaves}
use Rattle.hol_just.proofs.just.Just.disch_tac.Goals as goal

pub returns : goal.returns
returns c =
    made_as c.one.result (LeavesConsequent (nameless [] c.args.antecedent.now)) (λ t. one (Discharge t)) c.args.antecedent.now c.in_ok-copy.field-0 (discharge_leaves c.args.antecedent.now) c.in_ok-copy.ensures
    c.one.ensures
