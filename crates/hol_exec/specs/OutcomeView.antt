-- The outcome that the program's value stands for.
use Rattle.std.specs.Prelude.{[], string_bytes}
use Rattle.hol_terms.specs.Nameless.{nameless}
use Rattle.hol_exec.specs.declared.running.outcome.Change.{Change}
use Rattle.hol_exec.specs.declared.running.outcome.Change.TheVariants as change
use Rattle.hol_exec.specs.OutcomeValue.{OutcomeValue, Opens, Leaves, Undoes, Rotates, Makes, Refuses}

abbrev pub outcome_of : Change → OutcomeValue
outcome_of (change.Opens name statement basis) = Opens (string_bytes name) (nameless [] statement) basis
outcome_of (change.Leaves goal step basis) = Leaves goal step.goals basis
outcome_of change.Undoes = Undoes
outcome_of (change.Rotates times) = Rotates times
outcome_of (change.Makes entries) = Makes entries
outcome_of (change.Refuses kind arg) = Refuses kind (string_bytes arg)
