-- What is fixed for a run and the number of runs, of the program's value. Clauses of other crates say them by these words alone.
use Rattle.std.specs.Prelude.{ℕ}
use Rattle.hol_exec.specs.declared.running.meter.Meter.{Meter}
use Rattle.hol_exec.specs.Setup.{SetupValue}
use Rattle.hol_exec.specs.SetupView.{setup_value}

abbrev pub setup_of : {X W g : _} → Meter X W g → SetupValue
setup_of m = setup_value m.setup

-- the number of commands that were run
abbrev pub ran_of : {X W g : _} → Meter X W g → ℕ
ran_of m = m.ran
