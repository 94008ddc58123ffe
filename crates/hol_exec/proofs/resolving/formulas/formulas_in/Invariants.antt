use Rattle.std.proofs.Common.{◌≡◌, ◌++◌, drop}
use Rattle.hol_exec.specs.Expr.{formulas_in}
use Rattle.hol_exec.proofs.resolving.formulas.formulas_in.Given as goal

abbrev pub invariant-loop-part : goal.invariant-loop-part
invariant-loop-part l = formulas_in l.parts ≡ l.formulas.items ++ formulas_in (drop l.part-index l.parts)
