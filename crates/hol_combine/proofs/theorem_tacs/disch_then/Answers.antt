use Rattle.std.proofs.Common.{[], ◌∙◌, ap}
use Rattle.hol_terms.specs.Named.{Named}
use Rattle.hol_terms.specs.Nameless.{nameless}
use Rattle.hol_formulas.specs.Formula.{falsity}
use Rattle.hol_just.specs.Leaving.{concluding}
use Rattle.hol_combine.specs.ExprView.{theorem_tac_value}
use Rattle.hol_combine.proofs.Handed.{disch_valid, imp_leaves, neg_leaves}
use Rattle.hol_combine.proofs.theorem_tacs.disch_then.Goals as goal

pub returns-in-Some-clause-valid : goal.returns-in-Some-clause-valid
returns-in-Some-clause-valid g c =
    let p = nameless [] c.in-Some.p.now in
    let q = nameless [] c.in-Some.q.now in
    disch_valid (theorem_tac_value c.args.tac.now) c.args.goal.now c.in_ok-next.next p q c.in_ok-just.just c.hand_after.result c.in_ok-next.ensures
    (imp_leaves c.args.goal.now (nameless [] c.conclusion.result.now) p q c.in_ok-just.just c.conclusion.ensures.term c.in-Some.ensures.parts c.in_ok-just.ensures)
    c.hand_after.ensures.valid

pub returns-clause-valid : goal.returns-clause-valid
returns-clause-valid g c =
    let p = nameless [] c.in-Some-dest_neg.p.now in
    disch_valid (theorem_tac_value c.args.tac.now) c.args.goal.now c.in_ok-next-2.next p falsity c.in_ok-just-2.just c.hand_after-2.result
    (c.in_ok-next-2.ensures ∙ ap (λ (t : Named). concluding c.args.goal.now (nameless [] t)) c.in_ok-mk_falsity.ensures.is)
    (neg_leaves c.args.goal.now (nameless [] c.conclusion-2.result.now) p c.in_ok-just-2.just c.conclusion-2.ensures.term c.in-Some-dest_neg.ensures.part c.in_ok-just-2.ensures)
    c.hand_after-2.ensures.valid
