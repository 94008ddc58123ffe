use Rattle.hol_kernel.specs.Items.{no_items}
use Rattle.hol_clauses.proofs.Clauses.{one_one_derived}
use Rattle.hol_clauses.proofs.functions.one_one.Goals as goal

pub theorem-requires-clause-derived : goal.theorem-requires-clause-derived
theorem-requires-clause-derived c = one_one_derived no_items
