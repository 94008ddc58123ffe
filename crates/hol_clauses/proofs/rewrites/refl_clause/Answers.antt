use Rattle.hol_kernel.specs.Items.{no_items}
use Rattle.hol_clauses.proofs.Clauses.{refl_clause_derived}
use Rattle.hol_clauses.proofs.rewrites.refl_clause.Goals as goal

pub theorem-requires-clause-derived : goal.theorem-requires-clause-derived
theorem-requires-clause-derived c = refl_clause_derived no_items
