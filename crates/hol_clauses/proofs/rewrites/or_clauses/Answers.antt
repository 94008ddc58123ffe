use Rattle.hol_kernel.specs.Items.{no_items}
use Rattle.hol_clauses.proofs.Clauses.{or_clauses_derived}
use Rattle.hol_clauses.proofs.rewrites.or_clauses.Goals as goal

pub theorem-requires-clause-derived : goal.theorem-requires-clause-derived
theorem-requires-clause-derived c = or_clauses_derived no_items
