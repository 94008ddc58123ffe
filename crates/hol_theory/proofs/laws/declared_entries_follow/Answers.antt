use Rattle.hol_theory.proofs.Declaring.{type_follows, constant_follows, axiom_follows}
use Rattle.hol_theory.proofs.laws.declared_entries_follow.Goals as goal

pub returns-clause-types : goal.returns-clause-types
returns-clause-types c = type_follows

pub returns-clause-constants : goal.returns-clause-constants
returns-clause-constants c = constant_follows

pub returns-clause-axioms : goal.returns-clause-axioms
returns-clause-axioms c = axiom_follows
