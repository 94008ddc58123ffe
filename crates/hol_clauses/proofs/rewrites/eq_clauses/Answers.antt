use Rattle.hol_kernel.specs.Items.{no_items}
use Rattle.hol_clauses.proofs.Clauses.{eq_clauses_derived}
use Rattle.hol_clauses.proofs.rewrites.eq_clauses.Goals as goal

pub theorem-requires-clause-derived : goal.theorem-requires-clause-derived
theorem-requires-clause-derived c = eq_clauses_derived no_items
