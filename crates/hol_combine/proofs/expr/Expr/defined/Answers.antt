use Rattle.std.proofs.Common.{◌≡◌, ◌+◌, sym, ◌∙◌, ap, rules}
use Rattle.hol_combine.specs.ExprView.{expr_of_node}
use Rattle.hol_combine.proofs.Uses.{used_again, no_use}
use Rattle.hol_combine.proofs.expr.Expr.defined.Goals as goal

pub returns-in-Defined : goal.returns-in-Defined
returns-in-Defined c =
    let next : c.in_ok-more.more ≡ c.in-Defined.more + 1 = search rules in
    used_again c.new.result c.args.self.now c.in-Defined.part c.in_ok-copy.field-0 c.in-Defined.more c.in_ok-more.more (sym c.node.ensures.value ∙ ap expr_of_node c.in-Defined.is) c.in_ok-copy.ensures next c.new.ensures

pub new-requires-2 : goal.new-requires-2
new-requires-2 c = no_use c.node.result.now c.args.self.now c.in_ok-copy-2.field-0 c.node.ensures.value c.in_ok-copy-2.ensures c.in_default.not-Defined
