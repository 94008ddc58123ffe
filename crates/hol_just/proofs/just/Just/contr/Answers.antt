use Rattle.hol_terms.specs.Nameless.{nameless}
use Rattle.std.proofs.Common.{[]}
use Rattle.hol_just.specs.Justifies.{LeavesFalsity}
use Rattle.hol_just.specs.declared.reason.Reason.TheVariants.{Contradiction}
use Rattle.hol_just.proofs.Applied.{made_as}
use Rattle.hol_just.proofs.OneMove.{one}
use Rattle.hol_just.proofs.ConnectiveRules.{contradiction_leaves}
use Rattle.hol_just.proofs.just.Just.contr.Goals as goal

pub returns : goal.returns
returns c =
    made_as c.one.result (LeavesFalsity (nameless [] c.args.formula.now)) (λ t. one (Contradiction t)) c.args.formula.now c.in_ok-copy.field-0 (contradiction_leaves c.args.formula.now) c.in_ok-copy.ensures
    c.one.ensures
