use Rattle.hol_exec.proofs.Statements.{formula_typed}
use Rattle.hol_exec.proofs.resolving.expressions.resolve_formula.Goals as goal

pub new-requires : goal.new-requires
new-requires c = formula_typed c.in-Some.term.now c.in_ok-copy.field-0 c.is_statement.result c.if-is_statement.true c.is_statement.ensures c.in_ok-copy.ensures
