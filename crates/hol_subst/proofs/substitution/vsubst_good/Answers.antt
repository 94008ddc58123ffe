use Rattle.std.proofs.Common.{refl, subst}
use Rattle.std.proofs.lemmas.Result.{IfOk-weaker}
use Rattle.hol_subst.specs.Capture.{IsResult}
use Rattle.hol_subst.proofs.Steps.{at_top, names_at_top}
use Rattle.hol_subst.proofs.substitution.vsubst_good.Goals as goal

pub returns-clause-ok : goal.returns-clause-ok
returns-clause-ok c =
    IfOk-weaker c.substituted.result _ _
    (λ r is. at_top c.args.pairs.now c.in_ok-pairs.pairs.items c.args.t.now r r
    c.in_ok-pairs.ensures.ok (subst (λ x. IsResult x c.args.t.now r) c.deref.ensures.value is) refl)
    c.substituted.ensures

pub returns-clause-named : goal.returns-clause-named
returns-clause-named c =
    IfOk-weaker c.substituted.result _ _
    (λ r is. names_at_top c.args.pairs.now c.in_ok-pairs.pairs.items c.args.t.now r r
    c.in_ok-pairs.ensures.ok (subst (λ x. IsResult x c.args.t.now r) c.deref.ensures.value is) refl)
    c.substituted.ensures
