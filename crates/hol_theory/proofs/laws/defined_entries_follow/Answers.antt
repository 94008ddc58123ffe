use Rattle.hol_theory.proofs.Defining.{definition_follows, type_follows}
use Rattle.hol_theory.proofs.laws.defined_entries_follow.Goals as goal

pub returns-clause-constants : goal.returns-clause-constants
returns-clause-constants c = definition_follows

pub returns-clause-types : goal.returns-clause-types
returns-clause-types c = type_follows
