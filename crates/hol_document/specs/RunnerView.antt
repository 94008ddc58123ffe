-- What is fixed for a run and the number of runs, of what runs commands, and how both go on. Private clauses say them by these words alone.
use Rattle.std.specs.Prelude.{◌≡◌, ◌≤◌, ◌+◌, ℕ, Result, IfOk}
use Rattle.hol_exec.specs.MeterView as meter
use Rattle.hol_exec.specs.Setup.{SetupValue}
use Rattle.hol_document.specs.declared.runner.Runner.{Runner}

abbrev pub setup_of : {X W g : _} → Runner X W g → SetupValue
setup_of r = meter.setup_of r.meter

-- the number of commands that were run
abbrev pub ran_of : {X W g : _} → Runner X W g → ℕ
ran_of r = meter.ran_of r.meter

-- nothing was run
abbrev pub Stays : {X W g : _} → Runner X W g → Runner X W g → Type 0
Stays old new = (setup_of new ≡ setup_of old) × (ran_of new ≡ ran_of old)

-- commands may have been run: what is fixed stays
abbrev pub GoesOn : {X W g : _} → Runner X W g → Runner X W g → Type 0
GoesOn old new = (setup_of new ≡ setup_of old) × (ran_of old ≤ ran_of new)

-- commands may have been run: where there is a result, no more of them than it counts
abbrev pub RunsAtMost : {X W g : _} {T E : Type 0} → Runner X W g → Runner X W g → Result T E → (T → ℕ) → Type 0
RunsAtMost old new result count = (setup_of new ≡ setup_of old) × (ran_of old ≤ ran_of new) × IfOk result (λ value. ran_of new ≤ ran_of old + count value)
