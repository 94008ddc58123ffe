use Rattle.std.proofs.Common.{◌≡◌, [], subst, sym, ap, ◌∙◌, Some}
use Rattle.std.proofs.lemmas.Result.{IfOk-weaker}
use Rattle.hol_terms.specs.Nameless.{nameless}
use Rattle.hol_kernel.specs.Theorem.{Theorem}
use Rattle.hol_conv.specs.Traces.{used, traced}
use Rattle.hol_replay.specs.RuleTheorems.{redex_equation}
use Rattle.hol_replay.proofs.Known.{known_has}
use Rattle.hol_replay.proofs.Nodes.{rule_node, beta_applies, own_typed, body_applies, body_node, parts_apply, parts_node, both_node}
use Rattle.hol_replay.proofs.replaying.+node_theorem.Goals as goal

-- ---- a node
pub node_theorem-unchanged-requires : goal.node_theorem-unchanged-requires
node_theorem-unchanged-requires t c = record { typed = known_has c.args.basis.now c.args.t.now c.args.ty.now c.requires.known c.requires.typed }

pub node_theorem-reduced-requires-clause-typed :
    goal.node_theorem-reduced-requires-clause-typed
node_theorem-reduced-requires-clause-typed t c = known_has c.args.basis.now c.args.t.now c.args.ty.now c.requires.known c.requires.typed

pub node_theorem-reduced-requires-clause-applies :
    goal.node_theorem-reduced-requires-clause-applies
node_theorem-reduced-requires-clause-applies t c = beta_applies c.args.basis.now c.args.ty.now c.args.node.now c.args.t.now c.requires.known c.requires.typed c.in-Beta.is c.requires.traced

pub node_theorem-returns-in-Rule : goal.node_theorem-returns-in-Rule
node_theorem-returns-in-Rule t c =
    IfOk-weaker c.replaced.result _ _ (λ th e. rule_node c.args.basis.now c.args.ty.now c.args.node.now (nameless [] c.args.t.now) th.value c.in-Rule.rule c.in-Rule.is (subst (λ r. redex_equation c.args.basis.now c.args.ty.now r (nameless [] c.args.t.now) ≡ Some th.value) c.deref-in-Rule.ensures e)) c.replaced.ensures

-- ---- in the parts of an application
pub parts_theorem-in_application-requires-clause-applies :
    goal.parts_theorem-in_application-requires-clause-applies
parts_theorem-in_application-requires-clause-applies t c =
    parts_apply c.args.basis.now (used c.args.function.now) (used c.args.argument.now) (traced c.args.function.now) (traced c.args.argument.now) c.args.t.now c.application.result.0.now c.application.result.1.now c.type_of.result.now c.type_of-2.result.now c.args.ty.now c.application.ensures
    c.type_of.ensures.named c.type_of-2.ensures.named c.requires.typed c.in_ok-left.left.value c.in_ok-right.right.value c.in_ok-left.ensures c.in_ok-right.ensures

pub parts_theorem-returns : goal.parts_theorem-returns
parts_theorem-returns t c =
    IfOk-weaker c.in_application.result _ _
    (λ th e. parts_node c.args.basis.now (used c.args.function.now) (used c.args.argument.now) (traced c.args.function.now) (traced c.args.argument.now) c.args.t.now c.application.result.0.now c.application.result.1.now c.type_of.result.now c.type_of-2.result.now c.args.ty.now
    c.application.ensures c.type_of.ensures.named c.type_of-2.ensures.named c.requires.typed c.in_ok-left.left.value c.in_ok-right.right.value c.in_ok-left.ensures c.in_ok-right.ensures th.value e)
    c.in_application.ensures

-- ---- in the body of an abstraction
pub body_theorem-body_at-requires : goal.body_theorem-body_at-requires
body_theorem-body_at-requires t c = record { fits = own_typed c.args.v.now (used c.args.body.now) (traced c.args.body.now) c.args.t.now c.abstraction.result.0.now c.abstraction.result.1.now c.abstraction.ensures c.requires.traced c.in_ok-own.own c.in_ok-own.ensures.is }

pub body_theorem-in_abstraction-requires : goal.body_theorem-in_abstraction-requires
body_theorem-in_abstraction-requires t c = record {
  applies = body_applies c.args.v.now (used c.args.body.now) (traced c.args.body.now) c.args.t.now c.abstraction.result.0.now c.abstraction.result.1.now c.abstraction.ensures c.requires.traced c.in_ok-own.own c.in_ok-inside.inside c.in_ok-own.ensures.is c.in_ok-inside.ensures.is c.args.basis.now c.requires.known
      c.type_of.result.now c.args.ty.now c.type_of.ensures.named c.in_ok-inside.ensures.typed c.requires.typed c.in_ok-th.th.value c.in_ok-th.ensures;
}

pub body_theorem-returns : goal.body_theorem-returns
body_theorem-returns t c =
    IfOk-weaker c.in_abstraction.result _ _
    (λ r e. body_node c.args.v.now (used c.args.body.now) (traced c.args.body.now) c.args.t.now c.abstraction.result.0.now c.abstraction.result.1.now c.abstraction.ensures c.requires.traced c.in_ok-own.own c.in_ok-inside.inside c.in_ok-own.ensures.is c.in_ok-inside.ensures.is c.args.basis.now c.requires.known
    c.type_of.result.now c.args.ty.now c.type_of.ensures.named c.in_ok-inside.ensures.typed c.requires.typed c.in_ok-th.th.value c.in_ok-th.ensures r.value e)
    c.in_abstraction.ensures

-- ---- one after the other
pub both_theorem-returns : goal.both_theorem-returns
both_theorem-returns t c =
    IfOk-weaker c.one_after_other.result _ _
    (λ th e. both_node c.args.basis.now (used c.args.first.now) (used c.args.second.now) (traced c.args.first.now) (traced c.args.second.now) c.args.ty.now c.in-Some.sides.ty.now c.args.t.now c.in-Some.sides.left.now c.in-Some.sides.right.now c.in_ok-left.left.value c.in_ok-left.ensures (ap (λ (left : Theorem). left.sequent.concl) (sym c.deref-2.ensures) ∙ c.in-Some.ensures)
    c.in_ok-right.right.value c.in_ok-right.ensures th.value e)
    c.one_after_other.ensures
