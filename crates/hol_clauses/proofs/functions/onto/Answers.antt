use Rattle.hol_kernel.specs.Items.{no_items}
use Rattle.hol_clauses.proofs.Clauses.{onto_derived}
use Rattle.hol_clauses.proofs.functions.onto.Goals as goal

pub theorem-requires-clause-derived : goal.theorem-requires-clause-derived
theorem-requires-clause-derived c = onto_derived no_items
