use Rattle.hol_terms.specs.Nameless.{nameless}
use Rattle.std.proofs.Common.{[]}
use Rattle.hol_just.specs.Justifies.{LeavesRight}
use Rattle.hol_just.specs.declared.reason.Reason.TheVariants.{RightDisjunct}
use Rattle.hol_just.proofs.Applied.{made_as}
use Rattle.hol_just.proofs.OneMove.{one}
use Rattle.hol_just.proofs.ConnectiveRules.{right_disjunct_leaves}
use Rattle.hol_just.proofs.just.Just.disj2_tac.Goals as goal

pub returns : goal.returns
returns c =
    made_as c.one.result (LeavesRight (nameless [] c.args.left.now)) (λ t. one (RightDisjunct t)) c.args.left.now c.in_ok-copy.field-0 (right_disjunct_leaves c.args.left.now) c.in_ok-copy.ensures
    c.one.ensures
