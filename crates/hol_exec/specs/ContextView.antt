-- What only private clauses speak of: what expressions are resolved by, as the code has it.
use Rattle.std.specs.Prelude.{◌≡◌, ℕ, List}
use Rattle.hol_goal.specs.declared.tac_code.TacCode.{TacCode}
use Rattle.hol_resolve.specs.Over.{AreOver, AreWithin}
use Rattle.hol_resolve.specs.ReadingView.{readings_value}
use Rattle.hol_exec.specs.declared.resolving.expressions.Context.{Context}
use Rattle.hol_exec.specs.Expr.{ContextValue}
use Rattle.hol_exec.specs.Resolved.{cited_theorems}

abbrev pub context_value : List (List ℕ × TacCode) → Context → ContextValue
context_value table c = record { table = table; cited = c.reads.now.cited; readings = readings_value c.readings.now; basis = c.basis.now }

-- the theorems are those that are cited, and the basis contains theirs, over which the readings stand
pub record IsContext (c : Context) : Type 0 where
  pub theorems : c.theorems.now ≡ cited_theorems c.reads.now.cited
  pub within : AreWithin c.basis.now c.theorems.now
  pub over : AreOver c.basis.now (readings_value c.readings.now)
