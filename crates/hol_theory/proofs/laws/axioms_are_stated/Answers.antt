use Rattle.hol_theory.proofs.Standing.{axiom_stands, own_axiom_stated}
use Rattle.hol_theory.proofs.laws.axioms_are_stated.Goals as goal

pub returns-clause-stands : goal.returns-clause-stands
returns-clause-stands c = axiom_stands

pub returns-clause-own : goal.returns-clause-own
returns-clause-own c = own_axiom_stated
