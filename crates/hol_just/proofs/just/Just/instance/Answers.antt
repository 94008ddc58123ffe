use Rattle.std.proofs.Common.{[]}
use Rattle.hol_terms.specs.Nameless.{nameless}
use Rattle.hol_just.specs.Matching.{bound_variables}
use Rattle.hol_just.specs.Justifies.{ClosesByInstance}
use Rattle.hol_just.specs.declared.reason.Reason.TheVariants.{Matching}
use Rattle.hol_just.proofs.Applied.{made_three}
use Rattle.hol_just.proofs.OneMove.{one}
use Rattle.hol_just.proofs.MatchMoves.{instance_closes}
use Rattle.hol_just.proofs.just.Just.instance.Goals as goal

pub returns : goal.returns
returns c =
    made_three c.one.result (ClosesByInstance c.args.th.now (bound_variables c.args.formula.now) (nameless [] c.args.t.now)) (λ g f t. one (Matching g f t)) c.args.th.now c.in_ok-given.given
    c.args.formula.now c.in_ok-named.named c.args.t.now c.in_ok-instance.instance (instance_closes c.args.th.now c.args.formula.now c.args.t.now) c.in_ok-given.ensures c.in_ok-named.ensures
    c.in_ok-instance.ensures c.one.ensures
