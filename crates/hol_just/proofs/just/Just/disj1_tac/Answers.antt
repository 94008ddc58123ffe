use Rattle.hol_terms.specs.Nameless.{nameless}
use Rattle.std.proofs.Common.{[]}
use Rattle.hol_just.specs.Justifies.{LeavesLeft}
use Rattle.hol_just.specs.declared.reason.Reason.TheVariants.{LeftDisjunct}
use Rattle.hol_just.proofs.Applied.{made_as}
use Rattle.hol_just.proofs.OneMove.{one}
use Rattle.hol_just.proofs.ConnectiveRules.{left_disjunct_leaves}
use Rattle.hol_just.proofs.just.Just.disj1_tac.Goals as goal

pub returns : goal.returns
returns c =
    made_as c.one.result (LeavesLeft (nameless [] c.args.right.now)) (λ t. one (LeftDisjunct t)) c.args.right.now c.in_ok-copy.field-0 (left_disjunct_leaves c.args.right.now) c.in_ok-copy.ensures
    c.one.ensures
