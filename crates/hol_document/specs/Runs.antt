-- Outcomes that have left their slots, each with the text of its command, what it read, and which names were tested.
use Rattle.std.specs.Prelude.{◌≡◌, ℕ, List}
use Rattle.hol_exec.specs.CommandText.{LocalText, Local}
use Rattle.hol_exec.specs.Local.{IsLocalOutcome}
use Rattle.hol_exec.specs.OutcomeValue.{OutcomeValue}
use Rattle.hol_exec.specs.Reading.{ReadText, Reads, IsRead}
use Rattle.hol_exec.specs.ReadsValue.{ReadsValue}
use Rattle.hol_exec.specs.Setup.{SetupValue}
use Rattle.hol_exec.specs.Tested.{TestedValue}

pub record RunValue : Type 0 where
  pub text : List ℕ
  pub value : ReadText
  pub reads : ReadsValue
  pub tested : TestedValue
  pub outcome : OutcomeValue

-- the text is a command that has the outcome where it reads this, and constants have some names
pub record IsRun (setup : SetupValue) (run : RunValue) : Type 0 where
  pub parsed : IsRead run.text run.value
  pub command : LocalText
  pub reads_as : run.value ≡ Reads (Local command)
  pub names : List (List ℕ)
  pub gets : IsLocalOutcome setup names command run.reads (record { outcome = run.outcome; tested = run.tested })
