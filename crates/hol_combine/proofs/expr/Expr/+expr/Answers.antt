-- The expressions of a list that is dropped are smaller than what it is dropped from.
use denote.Param.Weighed.{most}
use Rattle.std.proofs.Common.{◌<◌, ◌+◌, ap, ◌∙◌, arith, rules}
use Rattle.hol_combine.specs.declared.expr.ExprNode.TheVariants as node
use Rattle.hol_combine.specs.declared.expr.Expr.TheDeep.{size-Expr}
use Rattle.hol_combine.specs.ExprValue.{ExprValue, expr_nodes}
use Rattle.hol_combine.specs.ExprView.{expr_of_node}
use Rattle.hol_combine.proofs.Dropped.{parts_fit, most_twice, only_part, second_part, third_part}
use Rattle.hol_combine.proofs.expr.Expr.+expr.Goals as goal

pub drop-requires-in-Some-Then-3 : goal.drop-requires-in-Some-Then-3
unfolding size-Expr
drop-requires-in-Some-Then-3 t c κs =
    let fit = parts_fit c.in-Some-Then.field-0 (node.Then c.in-Some-Then.field-0-0 c.in-Some-Then.field-0-1 c.in-Some-Then.field-0-2) c.loop-part.self c.args.self c.in-Some-Then.field-0-is (ap expr_of_node c.in-Some-Then.ensures ∙ c.self.view_is) c.loop-part.invariant in
    let twice = most_twice size-Expr (λ (y : ExprValue). expr_nodes y + 1) (λ x. omega arith) c.in-Some-Then.field-0-2.items in
    let bound : most size-Expr c.in-Some-Then.field-0-2.items < t = third_part (expr_nodes c.in-Some-Then.field-0-0 + 1) (expr_nodes c.in-Some-Then.field-0-1 + 1) _ _ (expr_nodes c.args.self) t twice fit c.decreases in
    search rules

pub drop-requires-in-Some-ThenL-2 : goal.drop-requires-in-Some-ThenL-2
unfolding size-Expr
drop-requires-in-Some-ThenL-2 t c κs =
    let fit = parts_fit c.in-Some-ThenL.field-0 (node.ThenL c.in-Some-ThenL.field-0-0 c.in-Some-ThenL.field-0-1) c.loop-part.self c.args.self c.in-Some-ThenL.field-0-is (ap expr_of_node c.in-Some-ThenL.ensures ∙ c.self.view_is) c.loop-part.invariant in
    let twice = most_twice size-Expr (λ (y : ExprValue). expr_nodes y + 1) (λ x. omega arith) c.in-Some-ThenL.field-0-1.items in
    let bound : most size-Expr c.in-Some-ThenL.field-0-1.items < t = second_part (expr_nodes c.in-Some-ThenL.field-0-0 + 1) _ _ (expr_nodes c.args.self) t twice fit c.decreases in
    search rules

pub drop-requires-in-Some-OrElse-3 : goal.drop-requires-in-Some-OrElse-3
unfolding size-Expr
drop-requires-in-Some-OrElse-3 t c κs =
    let fit = parts_fit c.in-Some-OrElse.field-0 (node.OrElse c.in-Some-OrElse.field-0-0 c.in-Some-OrElse.field-0-1 c.in-Some-OrElse.field-0-2) c.loop-part.self c.args.self c.in-Some-OrElse.field-0-is (ap expr_of_node c.in-Some-OrElse.ensures ∙ c.self.view_is) c.loop-part.invariant in
    let twice = most_twice size-Expr (λ (y : ExprValue). expr_nodes y + 1) (λ x. omega arith) c.in-Some-OrElse.field-0-2.items in
    let bound : most size-Expr c.in-Some-OrElse.field-0-2.items < t = third_part (expr_nodes c.in-Some-OrElse.field-0-0 + 1) (expr_nodes c.in-Some-OrElse.field-0-1 + 1) _ _ (expr_nodes c.args.self) t twice fit c.decreases in
    search rules

pub drop-requires-in-Some-Every : goal.drop-requires-in-Some-Every
unfolding size-Expr
drop-requires-in-Some-Every t c κs =
    let fit = parts_fit c.in-Some-Every.field-0 (node.Every c.in-Some-Every.field-0-0) c.loop-part.self c.args.self c.in-Some-Every.field-0-is (ap expr_of_node c.in-Some-Every.ensures ∙ c.self.view_is) c.loop-part.invariant in
    let twice = most_twice size-Expr (λ (y : ExprValue). expr_nodes y + 1) (λ x. omega arith) c.in-Some-Every.field-0-0.items in
    let bound : most size-Expr c.in-Some-Every.field-0-0.items < t = only_part _ _ (expr_nodes c.args.self) t twice fit c.decreases in
    search rules

pub drop-requires-in-Some-First : goal.drop-requires-in-Some-First
unfolding size-Expr
drop-requires-in-Some-First t c κs =
    let fit = parts_fit c.in-Some-First.field-0 (node.First c.in-Some-First.field-0-0) c.loop-part.self c.args.self c.in-Some-First.field-0-is (ap expr_of_node c.in-Some-First.ensures ∙ c.self.view_is) c.loop-part.invariant in
    let twice = most_twice size-Expr (λ (y : ExprValue). expr_nodes y + 1) (λ x. omega arith) c.in-Some-First.field-0-0.items in
    let bound : most size-Expr c.in-Some-First.field-0-0.items < t = only_part _ _ (expr_nodes c.args.self) t twice fit c.decreases in
    search rules
