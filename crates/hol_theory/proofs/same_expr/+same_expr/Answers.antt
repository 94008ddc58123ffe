use mathlib.Core.Bool.{true≢false}
use Rattle.std.proofs.Common.{◌≡◌, ◌+◌, ◌≤◌, length, arith, ap, sym, ◌∙◌, subst, refl}
use Rattle.std.proofs.lemmas.Bool.{eqb-true}
use Rattle.std.proofs.lemmas.List.{same_lists}
use Rattle.hol_combine.specs.ExprValue.{ExprValue, exprs, expr_nodes, exprs_nodes}
use Rattle.hol_theory.proofs.Nodes.{Shape, ACall, AThen, AThenL, AnOrElse, ATry, ARepeat, AnEvery, AFirst, AReplicate, AChanged, AHand, AUse, node_shape, differ, then_parts, or_else_parts, used_part, same_then, same_then_l, same_or_else, same_every, same_first, same_use, over, nodes_at, all_two, all_three, first_fails, second_fails}
use Rattle.hol_combine.specs.Chains.{IsWhole}
use Rattle.hol_theory.proofs.same_expr.+same_expr.Goals as goal
use Rattle.hol_theory.proofs.same_expr.+same_expr.Goals.{same_expr-then-same_expr, same_expr-else-same_expr, same_expr-then-same_expr-4, same_expr-else-same_expr-4}

-- ---- nodes of two kinds

pub same_expr-returns-in_default : goal.same_expr-returns-in_default
same_expr-returns-in_default t c =
    differ ACall c.node.result.now c.node-in-Call.result.now c.args.left.now c.args.right.now c.node.ensures.value c.node-in-Call.ensures.value (ap node_shape c.in-Call.is) (λ s. c.in_default.not-Call s.0 s.1)

pub same_expr-returns-in_default-node : goal.same_expr-returns-in_default-node
same_expr-returns-in_default-node t c =
    differ AThen c.node.result.now c.node-in-Then.result.now c.args.left.now c.args.right.now c.node.ensures.value c.node-in-Then.ensures.value (ap node_shape c.in-Then.is) (λ s. c.in_default-node.not-Then s.0 s.1 s.2 s.3)

pub same_expr-returns-in_default-node-2 : goal.same_expr-returns-in_default-node-2
same_expr-returns-in_default-node-2 t c =
    differ AThenL c.node.result.now c.node-in-ThenL.result.now c.args.left.now c.args.right.now c.node.ensures.value c.node-in-ThenL.ensures.value (ap node_shape c.in-ThenL.is) (λ s. c.in_default-node-2.not-ThenL s.0 s.1 s.2)

pub same_expr-returns-in_default-node-3 : goal.same_expr-returns-in_default-node-3
same_expr-returns-in_default-node-3 t c =
    differ AnOrElse c.node.result.now c.node-in-OrElse.result.now c.args.left.now c.args.right.now c.node.ensures.value c.node-in-OrElse.ensures.value (ap node_shape c.in-OrElse.is) (λ s. c.in_default-node-3.not-OrElse s.0 s.1 s.2 s.3)

pub same_expr-returns-in_default-node-4 : goal.same_expr-returns-in_default-node-4
same_expr-returns-in_default-node-4 t c =
    differ ATry c.node.result.now c.node-in-Try.result.now c.args.left.now c.args.right.now c.node.ensures.value c.node-in-Try.ensures.value (ap node_shape c.in-Try.is) (λ s. c.in_default-node-4.not-Try s.0 s.1)

pub same_expr-returns-in_default-node-5 : goal.same_expr-returns-in_default-node-5
same_expr-returns-in_default-node-5 t c =
    differ ARepeat c.node.result.now c.node-in-Repeat.result.now c.args.left.now c.args.right.now c.node.ensures.value c.node-in-Repeat.ensures.value (ap node_shape c.in-Repeat.is) (λ s. c.in_default-node-5.not-Repeat s.0 s.1)

pub same_expr-returns-in_default-node-6 : goal.same_expr-returns-in_default-node-6
same_expr-returns-in_default-node-6 t c =
    differ AnEvery c.node.result.now c.node-in-Every.result.now c.args.left.now c.args.right.now c.node.ensures.value c.node-in-Every.ensures.value (ap node_shape c.in-Every.is) (λ s. c.in_default-node-6.not-Every s.0 s.1)

pub same_expr-returns-in_default-node-7 : goal.same_expr-returns-in_default-node-7
same_expr-returns-in_default-node-7 t c =
    differ AFirst c.node.result.now c.node-in-First.result.now c.args.left.now c.args.right.now c.node.ensures.value c.node-in-First.ensures.value (ap node_shape c.in-First.is) (λ s. c.in_default-node-7.not-First s.0 s.1)

pub same_expr-returns-in_default-node-8 : goal.same_expr-returns-in_default-node-8
same_expr-returns-in_default-node-8 t c =
    differ AReplicate c.node.result.now c.node-in-Replicate.result.now c.args.left.now c.args.right.now c.node.ensures.value c.node-in-Replicate.ensures.value (ap node_shape c.in-Replicate.is) (λ s. c.in_default-node-8.not-Replicate s.0 s.1 s.2)

pub same_expr-returns-in_default-node-9 : goal.same_expr-returns-in_default-node-9
same_expr-returns-in_default-node-9 t c =
    differ AChanged c.node.result.now c.node-in-Changed.result.now c.args.left.now c.args.right.now c.node.ensures.value c.node-in-Changed.ensures.value (ap node_shape c.in-Changed.is) (λ s. c.in_default-node-9.not-Changed s.0 s.1)

pub same_expr-returns-in_default-node-10 : goal.same_expr-returns-in_default-node-10
same_expr-returns-in_default-node-10 t c =
    differ AHand c.node.result.now c.node-in-Hand.result.now c.args.left.now c.args.right.now c.node.ensures.value c.node-in-Hand.ensures.value (ap node_shape c.in-Hand.is) (λ s. c.in_default-node-10.not-Hand s.0 s.1 s.2)

pub same_expr-returns-in_default-node-11 : goal.same_expr-returns-in_default-node-11
same_expr-returns-in_default-node-11 t c =
    differ AUse c.node.result.now c.node-in-Defined.result.now c.args.left.now c.args.right.now c.node.ensures.value c.node-in-Defined.ensures.value (ap node_shape c.in-Defined.is) (λ s. c.in_default-node-11.not-Defined s.0 s.1 s.2)

-- ---- the parts are smaller

pub same_expr-same_expr-requires : goal.same_expr-same_expr-requires
same_expr-same_expr-requires t c =
    let h = then_parts c.node.result.now c.args.left.now c.node.ensures.value c.in-Then.first c.in-Then.second c.in-Then.more c.in-Then.is in
    (omega (arith, h, c.decreases), tt)

pub same_expr-same_expr-requires-then-same_expr : goal.same_expr-same_expr-requires-then-same_expr
same_expr-same_expr-requires-then-same_expr t c =
    let h = then_parts c.node.result.now c.args.left.now c.node.ensures.value c.in-Then.first c.in-Then.second c.in-Then.more c.in-Then.is in
    (omega (arith, h, c.decreases), tt)

pub same_expr-same_exprs-requires : goal.same_expr-same_exprs-requires
same_expr-same_exprs-requires t c =
    let h = then_parts c.node.result.now c.args.left.now c.node.ensures.value c.in-Then.first c.in-Then.second c.in-Then.more c.in-Then.is in
    (omega (arith, h, ap (λ ts. exprs_nodes (exprs ts)) c.deref.ensures.value, c.decreases), tt)

pub same_expr-same_expr-requires-then-same_expr-4 : goal.same_expr-same_expr-requires-then-same_expr-4
same_expr-same_expr-requires-then-same_expr-4 t c =
    let h = or_else_parts c.node.result.now c.args.left.now c.node.ensures.value c.in-OrElse.first c.in-OrElse.second c.in-OrElse.more c.in-OrElse.is in
    (omega (arith, h, c.decreases), tt)

pub same_expr-same_exprs-requires-then-same_expr-5 : goal.same_expr-same_exprs-requires-then-same_expr-5
same_expr-same_exprs-requires-then-same_expr-5 t c =
    let h = or_else_parts c.node.result.now c.args.left.now c.node.ensures.value c.in-OrElse.first c.in-OrElse.second c.in-OrElse.more c.in-OrElse.is in
    (omega (arith, h, ap (λ ts. exprs_nodes (exprs ts)) c.deref-then-same_expr-5.ensures.value, c.decreases), tt)

pub same_expr-same_expr-requires-then-more-other_more : goal.same_expr-same_expr-requires-then-more-other_more
same_expr-same_expr-requires-then-more-other_more t c =
    let h = used_part c.node.result.now c.args.left.now c.node.ensures.value c.in-Defined.more c.in-Defined.part c.in-Defined.is in
    (omega (arith, h, c.decreases), tt)

pub same_exprs-same_expr-requires : goal.same_exprs-same_expr-requires
same_exprs-same_expr-requires t c =
    let h = nodes_at c.args.left.now c.loop-i.i c.index-left-i.result c.loop-i-test.true in
    (omega (arith, h, ap expr_nodes c.index-left-i.is, c.decreases), tt)

-- ---- nodes of one kind

pub same_expr-returns-then-same_expr-2 : goal.same_expr-returns-then-same_expr-2
same_expr-returns-then-same_expr-2 t c =
    let whole = same_then c.node.result.now c.node-in-Then.result.now c.args.left.now c.args.right.now c.node.ensures.value c.node-in-Then.ensures.value c.in-Then.first c.in-Then.second c.in-Then-node.other_first c.in-Then-node.other_second c.in-Then.more c.in-Then-node.other_more c.in-Then.is c.in-Then-node.is
    (subst IsWhole c.in-Then.is c.node.ensures.whole) (subst IsWhole c.in-Then-node.is c.node-in-Then.ensures.whole) in
    let value = c.if-same_expr-2.true in
    elim c.if-same_expr.branch [
      | same_expr-then-same_expr w ↦
          all_three _ _ _ c.same_expr.ensures w.same_expr-then-same_expr.ensures (over _ _ _ _ _ c.same_exprs.ensures c.deref.ensures.value c.deref-then-same_expr-2.ensures.value) whole
          w.if-same_expr.true (sym w.value-is ∙ value)
      | same_expr-else-same_expr w ↦ absurd (true≢false (sym value ∙ w.value-is ∙ w.if-same_expr.false))
    ]

pub same_expr-returns-else-same_expr-2 : goal.same_expr-returns-else-same_expr-2
same_expr-returns-else-same_expr-2 t c =
    let whole = same_then c.node.result.now c.node-in-Then.result.now c.args.left.now c.args.right.now c.node.ensures.value c.node-in-Then.ensures.value c.in-Then.first c.in-Then.second c.in-Then-node.other_first c.in-Then-node.other_second c.in-Then.more c.in-Then-node.other_more c.in-Then.is c.in-Then-node.is
    (subst IsWhole c.in-Then.is c.node.ensures.whole) (subst IsWhole c.in-Then-node.is c.node-in-Then.ensures.whole) in
    let value = c.if-same_expr-2.false in
    elim c.if-same_expr.branch [
      | same_expr-then-same_expr w ↦ second_fails _ _ w.same_expr-then-same_expr.ensures whole (sym w.value-is ∙ value) value
      | same_expr-else-same_expr w ↦ first_fails _ _ c.same_expr.ensures whole w.if-same_expr.false value
    ]

pub same_expr-returns-then-same_expr-3 : goal.same_expr-returns-then-same_expr-3
same_expr-returns-then-same_expr-3 t c =
    let whole = same_then_l c.node.result.now c.node-in-ThenL.result.now c.args.left.now c.args.right.now c.node.ensures.value c.node-in-ThenL.ensures.value c.in-ThenL.first c.in-ThenL-node.other_first c.in-ThenL.parts c.in-ThenL-node.other_parts c.in-ThenL.is c.in-ThenL-node.is in
    all_two _ _ c.same_expr-in-ThenL.ensures (over _ _ _ _ _ c.same_exprs-then-same_expr-3.ensures c.deref-then-same_expr-3.ensures.value c.deref-then-same_expr-3-2.ensures.value) whole c.if-same_expr-3.true

pub same_expr-returns-then-same_expr-5 : goal.same_expr-returns-then-same_expr-5
same_expr-returns-then-same_expr-5 t c =
    let whole = same_or_else c.node.result.now c.node-in-OrElse.result.now c.args.left.now c.args.right.now c.node.ensures.value c.node-in-OrElse.ensures.value c.in-OrElse.first c.in-OrElse.second c.in-OrElse-node.other_first c.in-OrElse-node.other_second c.in-OrElse.more c.in-OrElse-node.other_more c.in-OrElse.is c.in-OrElse-node.is
    (subst IsWhole c.in-OrElse.is c.node.ensures.whole) (subst IsWhole c.in-OrElse-node.is c.node-in-OrElse.ensures.whole) in
    let value = c.if-same_expr-5.true in
    elim c.if-same_expr-4.branch [
      | same_expr-then-same_expr-4 w ↦
          all_three _ _ _ c.same_expr-in-OrElse.ensures w.same_expr-then-same_expr-4.ensures (over _ _ _ _ _ c.same_exprs-then-same_expr-5.ensures c.deref-then-same_expr-5.ensures.value c.deref-then-same_expr-5-2.ensures.value) whole
          w.if-same_expr-4.true (sym w.value-is ∙ value)
      | same_expr-else-same_expr-4 w ↦ absurd (true≢false (sym value ∙ w.value-is ∙ w.if-same_expr-4.false))
    ]

pub same_expr-returns-else-same_expr-5 : goal.same_expr-returns-else-same_expr-5
same_expr-returns-else-same_expr-5 t c =
    let whole = same_or_else c.node.result.now c.node-in-OrElse.result.now c.args.left.now c.args.right.now c.node.ensures.value c.node-in-OrElse.ensures.value c.in-OrElse.first c.in-OrElse.second c.in-OrElse-node.other_first c.in-OrElse-node.other_second c.in-OrElse.more c.in-OrElse-node.other_more c.in-OrElse.is c.in-OrElse-node.is
    (subst IsWhole c.in-OrElse.is c.node.ensures.whole) (subst IsWhole c.in-OrElse-node.is c.node-in-OrElse.ensures.whole) in
    let value = c.if-same_expr-5.false in
    elim c.if-same_expr-4.branch [
      | same_expr-then-same_expr-4 w ↦ second_fails _ _ w.same_expr-then-same_expr-4.ensures whole (sym w.value-is ∙ value) value
      | same_expr-else-same_expr-4 w ↦ first_fails _ _ c.same_expr-in-OrElse.ensures whole w.if-same_expr-4.false value
    ]

pub same_expr-returns-in-Every-node : goal.same_expr-returns-in-Every-node
same_expr-returns-in-Every-node t c =
    let lists = over _ _ _ _ _ c.same_exprs-in-Every.ensures c.deref-in-Every.ensures.value c.deref-in-Every-2.ensures.value in
    let whole = same_every c.node.result.now c.node-in-Every.result.now c.args.left.now c.args.right.now c.node.ensures.value c.node-in-Every.ensures.value c.in-Every.parts c.in-Every-node.other_parts c.in-Every.is c.in-Every-node.is in
    ((λ e. whole.0 (lists.0 e)), (λ e. lists.1 (whole.1 e)))

pub same_expr-returns-in-First-node : goal.same_expr-returns-in-First-node
same_expr-returns-in-First-node t c =
    let lists = over _ _ _ _ _ c.same_exprs-in-First.ensures c.deref-in-First.ensures.value c.deref-in-First-2.ensures.value in
    let whole = same_first c.node.result.now c.node-in-First.result.now c.args.left.now c.args.right.now c.node.ensures.value c.node-in-First.ensures.value c.in-First.parts c.in-First-node.other_parts c.in-First.is c.in-First-node.is in
    ((λ e. whole.0 (lists.0 e)), (λ e. lists.1 (whole.1 e)))

pub same_expr-returns-then-more-other_more : goal.same_expr-returns-then-more-other_more
same_expr-returns-then-more-other_more t c =
    let whole = same_use c.node.result.now c.node-in-Defined.result.now c.args.left.now c.args.right.now c.node.ensures.value c.node-in-Defined.ensures.value c.in-Defined.more c.in-Defined-node.other_more c.in-Defined.part c.in-Defined-node.other_part c.in-Defined.is c.in-Defined-node.is
    (subst IsWhole c.in-Defined.is c.node.ensures.whole) (subst IsWhole c.in-Defined-node.is c.node-in-Defined.ensures.whole) in
    let times : c.in-Defined.more ≡ c.in-Defined-node.other_more = omega (arith, c.if-more-other_more.true) in
    let part = c.same_expr-then-more-other_more.ensures in
    ((λ e. whole.0 (times, part.0 e)), (λ e. part.1 (whole.1 e).1))

pub same_expr-returns-else-more-other_more : goal.same_expr-returns-else-more-other_more
same_expr-returns-else-more-other_more t c =
    let whole = same_use c.node.result.now c.node-in-Defined.result.now c.args.left.now c.args.right.now c.node.ensures.value c.node-in-Defined.ensures.value c.in-Defined.more c.in-Defined-node.other_more c.in-Defined.part c.in-Defined-node.other_part c.in-Defined.is c.in-Defined-node.is
    (subst IsWhole c.in-Defined.is c.node.ensures.whole) (subst IsWhole c.in-Defined-node.is c.node-in-Defined.ensures.whole) in
    ((λ e. absurd (omega (arith, eqb-true _ _ e, c.if-more-other_more.false))), (λ e. absurd (omega (arith, (whole.1 e).0, c.if-more-other_more.false))))

-- ---- lists

pub same_exprs-returns : goal.same_exprs-returns
same_exprs-returns t c =
    let n : length c.args.left.now ≡ length c.args.right.now = omega (arith, c.if-left-right.false) in
    ((λ e. same_lists _ _ n (λ k d h. c.loop-i.invariant k d (omega (arith, h)))), (λ e. refl))
