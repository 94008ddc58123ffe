use Rattle.std.proofs.Common.{◌∙◌, ap}
use Rattle.hol_subst.proofs.Rest.{rest_yes, rest_no}
use Rattle.hol_subst.proofs.pairs.rest_of.Goals.{then-stays+in_ok-add_pair, else-stays}
use Rattle.hol_subst.proofs.pairs.rest_of.Goals as goal

pub loop-pair-preserved : goal.loop-pair-preserved
loop-pair-preserved c = elim c.if-stays.branch [
  | then-stays+in_ok-add_pair w ↦ rest_yes c.args.v.now c.args.b.now c.args.pairs.now c.loop-pair.rest.items c.if-stays.rest.items c.loop-pair.pair-index c.pair-item.result c.stays.result c.loop-pair.invariant c.loop-pair-test.true c.pair-item.is c.stays.ensures.own w.if-stays.true (ap (λ x. x.items) w.rest-is ∙ w.in_ok-add_pair.ensures)
  | else-stays w ↦ rest_no c.args.v.now c.args.b.now c.args.pairs.now c.loop-pair.rest.items c.if-stays.rest.items c.loop-pair.pair-index c.pair-item.result c.stays.result c.loop-pair.invariant c.loop-pair-test.true c.pair-item.is c.stays.ensures.others w.if-stays.false (ap (λ x. x.items) w.rest-is)
]
