-- The set-up that the program's value stands for. Clauses of other crates say it by this word alone.
use Rattle.hol_registry.specs.RegistryView.{table}
use Rattle.hol_exec.specs.declared.running.setup.Setup.{Setup}
use Rattle.hol_exec.specs.Setup.{SetupValue}

abbrev pub setup_value : {X W g : _} → Setup X W g → SetupValue
setup_value s = record { table = table s.registry; turns = s.turns }
