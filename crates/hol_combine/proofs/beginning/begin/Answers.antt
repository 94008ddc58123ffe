-- Of each form of expression: what it begins.
use Rattle.std.proofs.Common.{◌≡◌, suc, ◌-◌, ◌∷◌, length, drop, take, reverse, sym, ap, ◌∙◌, subst, arith, rules}
use Rattle.std.proofs.lemmas.Result.{err_from_is_err_and}
use Rattle.hol_goal.specs.Goal.{GoalValue}
use Rattle.hol_goal.specs.UsedView.{used_value}
use Rattle.hol_combine.specs.ExprValue.{Call, Then, OrElse, Repeat, First, Replicate, exprs, then_all, or_else_all, used_through}
use Rattle.hol_combine.specs.ExprView.{call_value, theorem_tac_value, expr_of_handing, expr_of_node}
use Rattle.hol_combine.specs.Pending.{Runs}
use Rattle.hol_combine.proofs.Begun.{then_begun, or_else_begun, uses_begun, uses_stopped}
use Rattle.hol_combine.proofs.Lists.{split}
use Rattle.hol_combine.proofs.Stepping.{GoesOnTo, pushes, becomes_ok, as_expr, as_expr_ok, goal_as, ended_as, stops_by, handing_steps}
use Rattle.hol_combine.proofs.beginning.begin.Goals as goal

pub returns-in-Call-clause-goes : goal.returns-in-Call-clause-goes
returns-in-Call-clause-goes g c =
    ended_as (g.T.Tacs.known_of c.args.tacs.now) (Call (call_value c.in-Call.call)) c.args.expr.now _ c.args.goal (used_value c.args.used) (reverse c.args.outer.now.items) c.run_call.result c.ended.result
    (sym (ap expr_of_node c.in-Call.is) ∙ c.node.ensures.value) (omega arith) c.ended.ensures c.run_call.ensures.answer c.run_call.ensures.valid (cc)

pub returns-in-Hand-clause-goes : goal.returns-in-Hand-clause-goes
returns-in-Hand-clause-goes g c =
    ended_as (g.T.Tacs.known_of c.args.tacs.now) (expr_of_handing c.in-Hand.how (theorem_tac_value c.in-Hand.tac)) c.args.expr.now _ c.args.goal (used_value c.args.used) (reverse c.args.outer.now.items) c.run_handing.result c.ended-in-Hand.result
    (sym (ap expr_of_node c.in-Hand.is) ∙ c.node.ensures.value) (handing_steps (g.T.Tacs.known_of c.args.tacs.now) c.in-Hand.how (theorem_tac_value c.in-Hand.tac) _ (used_value c.args.used)) c.ended-in-Hand.ensures c.run_handing.ensures.answer c.run_handing.ensures.valid (cc)

pub returns-in-Then-clause-goes : goal.returns-in-Then-clause-goes
returns-in-Then-clause-goes g c =
    let known = g.T.Tacs.known_of c.args.tacs.now in
    let rest : c.as_slice-more.result.now ≡ c.in-Then.more.items = search rules in
    as_expr_ok known (reverse c.args.outer.now.items) (reverse c.push.new.self.items) (Runs c.in-Then.first c.args.goal (used_value c.args.used)) c.args.goal (used_value c.args.used) (then_all (Then c.in-Then.first c.in-Then.second) c.in-Then.more.items) c.args.expr.now
    (sym (ap expr_of_node c.in-Then.is) ∙ c.node.ensures.value)
    (pushes known (Runs (then_all (Then c.in-Then.first c.in-Then.second) c.in-Then.more.items) c.args.goal (used_value c.args.used)) _ c.args.outer.now.items c.push.new.self.items c.in_ok-push-in-Then.ensures.items (Runs c.in-Then.first c.args.goal (used_value c.args.used))
    (then_begun known c.args.goal (used_value c.args.used) c.in-Then.first c.in-Then.second c.in-Then.more.items _ _ c.from_ref-parts.ensures.value rest))

pub returns-in-OrElse-clause-goes : goal.returns-in-OrElse-clause-goes
returns-in-OrElse-clause-goes g c =
    let known = g.T.Tacs.known_of c.args.tacs.now in
    let rest : c.as_slice.result.now ≡ c.in-OrElse.more.items = search rules in
    let copied : c.in_ok-copy-in-OrElse.field-0 ≡ c.args.goal = cc c.in_ok-copy-in-OrElse.ensures in
    as_expr_ok known (reverse c.args.outer.now.items) (reverse c.push-in-OrElse.new.self.items) (Runs c.in-OrElse.first c.args.goal (used_value c.args.used)) c.args.goal (used_value c.args.used) (OrElse c.in-OrElse.first (or_else_all c.in-OrElse.second c.in-OrElse.more.items)) c.args.expr.now
    (sym (ap expr_of_node c.in-OrElse.is) ∙ c.node.ensures.value)
    (pushes known (Runs (OrElse c.in-OrElse.first (or_else_all c.in-OrElse.second c.in-OrElse.more.items)) c.args.goal (used_value c.args.used)) _ c.args.outer.now.items c.push-in-OrElse.new.self.items c.in_ok-push-in-OrElse.ensures.items
    (Runs c.in-OrElse.first c.args.goal (used_value c.args.used)) (or_else_begun known c.args.goal (used_value c.args.used) c.in-OrElse.first c.in-OrElse.more.items c.in_ok-copy-in-OrElse.field-0 _ _ copied rest))

pub returns-in-Repeat-clause-goes : goal.returns-in-Repeat-clause-goes
returns-in-Repeat-clause-goes g c =
    let known = g.T.Tacs.known_of c.args.tacs.now in
    goal_as known (reverse c.args.outer.now.items) (reverse c.begin_repeat.new.outer.items) c.begin_repeat.result _ c.args.goal (used_value c.args.used) (Repeat c.in-Repeat.part) c.args.expr.now (sym (ap expr_of_node c.in-Repeat.is) ∙ c.node.ensures.value) (c.begin_repeat.ensures.goes known) (cc)

pub returns-in-Replicate-clause-goes : goal.returns-in-Replicate-clause-goes
returns-in-Replicate-clause-goes g c =
    let known = g.T.Tacs.known_of c.args.tacs.now in
    goal_as known (reverse c.args.outer.now.items) (reverse c.begin_replicate.new.outer.items) c.begin_replicate.result _ c.args.goal (used_value c.args.used) (Replicate c.in-Replicate.times c.in-Replicate.part) c.args.expr.now (sym (ap expr_of_node c.in-Replicate.is) ∙ c.node.ensures.value)
    (c.begin_replicate.ensures.goes known) (cc)

pub returns-in-First-clause-goes : goal.returns-in-First-clause-goes
returns-in-First-clause-goes g c =
    let known = g.T.Tacs.known_of c.args.tacs.now in
    let parts = c.as_slice-in-First.result.now in
    let same : c.as_slice-in-First.result.now ≡ c.in-First.parts.items = search rules in
    let is : c.as_slice-in-First.result.now ≡ c.first-item.result ∷ take (length c.as_slice-in-First.result.now - 1) (drop 1 c.as_slice-in-First.result.now) = split parts c.first-item.result (omega (arith, c.in-len1-up.len_at_least)) c.first-item.is in
    goal_as known (reverse c.args.outer.now.items) (reverse c.begin_alternatives.new.outer.items) c.begin_alternatives.result _ c.args.goal (used_value c.args.used) (First (exprs (c.first-item.result ∷ take (length parts - 1) (drop 1 parts)))) c.args.expr.now
    (ap (λ ts. First (exprs ts)) (sym is ∙ same) ∙ sym (ap expr_of_node c.in-First.is) ∙ c.node.ensures.value) (c.begin_alternatives.ensures.goes known) (cc)

pub returns-in_err-paid_too-in-Defined-clause-goes :
    goal.returns-in_err-paid_too-in-Defined-clause-goes
returns-in_err-paid_too-in-Defined-clause-goes g c =
    let known = g.T.Tacs.known_of c.args.tacs.now in
    let p = err_from_is_err_and c.from_residual-in_err-paid_too-in-Defined.result c.from_residual-in_err-paid_too-in-Defined.ensures.1 in
    as_expr known (reverse c.args.outer.now.items) (reverse c.args.outer.now.items) c.from_residual-in_err-paid_too-in-Defined.result c.args.goal (used_value c.args.used) (used_through (suc c.in-Defined.more) c.in-Defined.part) c.args.expr.now
    (sym (ap expr_of_node c.in-Defined.is) ∙ c.node.ensures.value)
    (stops_by known (Runs (used_through (suc c.in-Defined.more) c.in-Defined.part) c.args.goal (used_value c.args.used)) (reverse c.args.outer.now.items) (reverse c.args.outer.now.items) c.from_residual-in_err-paid_too-in-Defined.result p.0 _ p.1 p.2
    (uses_stopped known c.args.goal (used_value c.args.used) c.in-Defined.more c.in-Defined.part _ c.in_err-paid_too-in-Defined.ensures.few.0 c.in_err-paid_too-in-Defined.ensures.few.1))

pub returns-clause-goes : goal.returns-clause-goes
returns-clause-goes g c =
    let known = g.T.Tacs.known_of c.args.tacs.now in
    let paid = used_value c.in_ok-paid_too-in-Defined.field-0 in
    subst (λ (x : GoalValue). GoesOnTo known (reverse c.args.outer.now.items) (Runs c.args.expr.now c.args.goal (used_value c.args.used)) (reverse c.args.outer.now.items) (Runs c.in-Defined.part x (used_value c.in_ok-paid_too-in-Defined.field-0))) (sym c.goal-in-Defined.view_is)
    (as_expr_ok known (reverse c.args.outer.now.items) (reverse c.args.outer.now.items) (Runs c.in-Defined.part c.args.goal paid) c.args.goal (used_value c.args.used) (used_through (suc c.in-Defined.more) c.in-Defined.part) c.args.expr.now
    (sym (ap expr_of_node c.in-Defined.is) ∙ c.node.ensures.value)
    (becomes_ok known (Runs (used_through (suc c.in-Defined.more) c.in-Defined.part) c.args.goal (used_value c.args.used)) (reverse c.args.outer.now.items) (Runs c.in-Defined.part c.args.goal paid)
    (uses_begun known c.args.goal (used_value c.args.used) c.in-Defined.more c.in-Defined.part paid (omega (arith, c.in_ok-paid_too-in-Defined.ensures.paid)) c.in_ok-paid_too-in-Defined.ensures.tested)))
