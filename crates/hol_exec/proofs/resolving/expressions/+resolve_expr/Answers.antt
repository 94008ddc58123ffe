use Rattle.std.proofs.Common.{rules, ◌≡◌, ◌++◌, ◌∷◌, [], List, drop, ap, sym, ◌∙◌, subst, arith, length, ◌<◌, Ok}
use Rattle.hol_combine.specs.ExprValue.{ExprValue}
use Rattle.hol_notation_tactics.specs.Text.{TacText, Then, Every, First, tac_nodes, tac_texts}
use Rattle.hol_notation_tactics.specs.TacView.{tac_of_node}
use Rattle.hol_notation_tactics.proofs.SameTactics.{nodes_at}
use Rattle.hol_exec.specs.Expr.{both, resolved_expr}
use Rattle.hol_combine.specs.ExprValue as expr
use Rattle.hol_exec.specs.ContextView.{context_value}
use Rattle.hol_exec.specs.ExprView.{IsChain}
use Rattle.hol_exec.proofs.Parts.{each_goes_on, each_ends, nothing_more, chain_of_one, one_alternative, chain_longer, chain_node, found_at, no_steps, no_alternatives}
use Rattle.hol_exec.proofs.resolving.expressions.+resolve_expr.Goals as goal

pub push_then-returns-in-Then : goal.push_then-returns-in-Then
push_then-returns-in-Then g t c =
    let context = context_value (g.N.LooksUp.table_of c.args.names.now) c.args.context.now in
    let is : c.args.tactic.now ≡ Then c.in-Then.first c.in-Then.second = sym c.node.ensures ∙ ap tac_of_node c.in-Then.is in
    let grown : c.push.new.self.items ≡ c.push_then.new.parts.items ++ (c.in_ok-resolve_expr.field-0 ∷ []) = search rules in
    subst (λ (x : TacText). IsChain (resolved_expr context x) c.args.parts.now.items c.push.new.self.items) (sym is)
    (chain_longer (resolved_expr context c.in-Then.first) (resolved_expr context c.in-Then.second) c.args.parts.now.items c.push_then.new.parts.items c.push.new.self.items c.in_ok-resolve_expr.field-0 c.in_ok-push_then.ensures c.in_ok-resolve_expr.ensures grown)

pub push_then-returns : goal.push_then-returns
push_then-returns g t c =
    let context = context_value (g.N.LooksUp.table_of c.args.names.now) c.args.context.now in
    let grown : c.push-2.new.self.items ≡ c.args.parts.now.items ++ (c.in_ok-resolve_expr-2.field-0 ∷ []) = search rules in
    chain_of_one (resolved_expr context c.args.tactic.now) c.args.parts.now.items c.push-2.new.self.items c.in_ok-resolve_expr-2.field-0 c.in_ok-resolve_expr-2.ensures grown
    (no_steps context c.node.result.now c.args.tactic.now c.in_ok-resolve_expr-2.field-0 c.node.ensures c.in_ok-resolve_expr-2.ensures c.in_default.not-Then)

pub push_or_else-returns : goal.push_or_else-returns
push_or_else-returns g t c =
    let context = context_value (g.N.LooksUp.table_of c.args.names.now) c.args.context.now in
    let grown : c.push-2.new.self.items ≡ c.args.parts.now.items ++ (c.in_ok-resolve_expr-2.field-0 ∷ []) = search rules in
    one_alternative (resolved_expr context c.args.tactic.now) c.args.parts.now.items c.push-2.new.self.items c.in_ok-resolve_expr-2.field-0 c.in_ok-resolve_expr-2.ensures grown
    (no_alternatives context c.node.result.now c.args.tactic.now c.in_ok-resolve_expr-2.field-0 c.node.ensures c.in_ok-resolve_expr-2.ensures c.in_default.not-OrElse)

pub resolve_each-resolve_expr-requires : goal.resolve_each-resolve_expr-requires
resolve_each-resolve_expr-requires g t c κs within =
    let h = nodes_at c.args.tactics.now c.loop-tactic.tactic-index c.tactic-item.result c.loop-tactic-test.true in
    (omega (arith, h, ap tac_nodes c.tactic-item.is, c.decreases), (within, c.requires))

pub resolve_each-loop-tactic-preserved : goal.resolve_each-loop-tactic-preserved
resolve_each-loop-tactic-preserved g t c =
    let grown : c.push.new.self.items ≡ c.loop-tactic.parts.items ++ (c.in_ok-resolve_expr.field-0 ∷ []) = search rules in
    each_goes_on (context_value (g.N.LooksUp.table_of c.args.names.now) c.args.context.now) c.args.tactics.now c.loop-tactic.parts.items c.push.new.self.items c.loop-tactic.tactic-index c.tactic-item.result c.in_ok-resolve_expr.field-0
    c.loop-tactic-test.true c.tactic-item.is c.in_ok-resolve_expr.ensures grown c.loop-tactic.invariant

pub resolve_each-returns : goal.resolve_each-returns
resolve_each-returns g t c =
    let none : drop c.loop-tactic.tactic-index c.args.tactics.now ≡ [] = nothing_more c.args.tactics.now c.loop-tactic.tactic-index (omega (arith, c.loop-tactic-test.false)) in
    each_ends (context_value (g.N.LooksUp.table_of c.args.names.now) c.args.context.now) c.args.tactics.now c.loop-tactic.parts.items c.loop-tactic.tactic-index none c.loop-tactic.invariant

pub resolve_expr-returns-in-Repeat : goal.resolve_expr-returns-in-Repeat
resolve_expr-returns-in-Repeat g t c = found_at (context_value (g.N.LooksUp.table_of c.args.names.now) c.args.context.now) _ _ c.repeat_node.result (sym (ap tac_of_node c.in-Repeat.is) ∙ c.node.ensures) (c.repeat_node.ensures _ c.resolve_expr.ensures)

pub resolve_expr-returns-in-Try : goal.resolve_expr-returns-in-Try
resolve_expr-returns-in-Try g t c = found_at (context_value (g.N.LooksUp.table_of c.args.names.now) c.args.context.now) _ _ c.try_node.result (sym (ap tac_of_node c.in-Try.is) ∙ c.node.ensures) (c.try_node.ensures _ c.resolve_expr-in-Try.ensures)

pub resolve_expr-returns-in-Changed : goal.resolve_expr-returns-in-Changed
resolve_expr-returns-in-Changed g t c = found_at (context_value (g.N.LooksUp.table_of c.args.names.now) c.args.context.now) _ _ c.changed_node.result (sym (ap tac_of_node c.in-Changed.is) ∙ c.node.ensures) (c.changed_node.ensures _ c.resolve_expr-in-Changed.ensures)

pub resolve_expr-returns-in-Every : goal.resolve_expr-returns-in-Every
resolve_expr-returns-in-Every g t c = found_at (context_value (g.N.LooksUp.table_of c.args.names.now) c.args.context.now) _ _ c.every_node.result (ap (λ (ts : List TacText). Every (tac_texts ts)) c.deref-in-Every.ensures.value ∙ sym (ap tac_of_node c.in-Every.is) ∙ c.node.ensures) (c.every_node.ensures _ c.resolve_each.ensures)

pub resolve_expr-returns-in-First : goal.resolve_expr-returns-in-First
resolve_expr-returns-in-First g t c = found_at (context_value (g.N.LooksUp.table_of c.args.names.now) c.args.context.now) _ _ c.first_node.result (ap (λ (ts : List TacText). First (tac_texts ts)) c.deref-in-First.ensures.value ∙ sym (ap tac_of_node c.in-First.is) ∙ c.node.ensures) (c.first_node.ensures _ c.resolve_each-in-First.ensures)

pub resolve_expr-returns-in-Replicate : goal.resolve_expr-returns-in-Replicate
resolve_expr-returns-in-Replicate g t c = found_at (context_value (g.N.LooksUp.table_of c.args.names.now) c.args.context.now) _ _ c.replicate_node.result (sym (ap tac_of_node c.in-Replicate.is) ∙ c.node.ensures) (c.replicate_node.ensures _ c.resolve_expr-in-Replicate.ensures)

pub resolve_expr-returns-in-SubgoalThen : goal.resolve_expr-returns-in-SubgoalThen
resolve_expr-returns-in-SubgoalThen g t c = found_at (context_value (g.N.LooksUp.table_of c.args.names.now) c.args.context.now) _ _ c.hand_formula.result (sym (ap tac_of_node c.in-SubgoalThen.is) ∙ c.node.ensures) (c.hand_formula.ensures)

pub resolve_then-returns : goal.resolve_then-returns
resolve_then-returns g t c =
    let context = context_value (g.N.LooksUp.table_of c.args.names.now) c.args.context.now in
    let grown : c.push.new.self.items ≡ c.push_then.new.parts.items ++ (c.in_ok-resolve_expr.field-0 ∷ []) = search rules in
    let none : c.new-parts.result.items ≡ [] = c.new-parts.ensures.items in
    let chain : IsChain (both expr.Then (resolved_expr context c.args.first.now) (resolved_expr context c.args.second.now)) [] c.push.new.self.items =
    chain_longer (resolved_expr context c.args.first.now) (resolved_expr context c.args.second.now) [] c.push_then.new.parts.items c.push.new.self.items c.in_ok-resolve_expr.field-0
    (subst (λ (old : List ExprValue). IsChain (resolved_expr context c.args.first.now) old c.push_then.new.parts.items) none c.in_ok-push_then.ensures) c.in_ok-resolve_expr.ensures grown in
    let two : 1 < length c.push.new.self.items = search rules in
    let found = chain_node (both expr.Then (resolved_expr context c.args.first.now) (resolved_expr context c.args.second.now)) c.push.new.self.items c.remove-head.new.self.items c.remove-next.new.self.items c.remove-head.result c.remove-next.result chain two c.remove-head.ensures.value c.remove-head.ensures.items c.remove-next.ensures.value c.remove-next.ensures.items in
    found ∙ ap Ok (sym c.in_ok-new.ensures)
