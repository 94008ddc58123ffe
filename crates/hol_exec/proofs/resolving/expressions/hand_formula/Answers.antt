use Rattle.hol_exec.specs.Expr.{resolved_handing}
use Rattle.hol_exec.specs.ContextView.{context_value}
use Rattle.hol_exec.proofs.Parts.{formula_handed}
use Rattle.hol_exec.proofs.resolving.expressions.hand_formula.Goals as goal

pub returns : goal.returns
returns g c =
    formula_handed _ (resolved_handing (context_value (g.N.LooksUp.table_of c.args.names.now) c.args.context.now) c.args.call.now) c.in_ok-formula.formula c.hand.result c.in_ok-formula.ensures c.hand.ensures
