use Rattle.std.proofs.Common.{◌≡◌, drop}
use Rattle.hol_resolve.specs.ReadingView.{readings_value}
use Rattle.hol_exec.specs.Expr.{first_not_bool}
use Rattle.hol_exec.proofs.resolving.formulas.first_not_bool.Given as goal

abbrev pub invariant-loop-formula : goal.invariant-loop-formula
invariant-loop-formula l = first_not_bool (readings_value l.readings) l.formulas ≡ first_not_bool (readings_value l.readings) (drop l.formula-index l.formulas)
