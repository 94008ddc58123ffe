-- The outcome of what a text reads as, at a state, from what that reads of it.
use Rattle.std.specs.Prelude.{◌≡◌, ℕ, List, [], ◌∷◌, cond, bytes_eq, Option, Some, None, is_some, decimal}
use Rattle.hol_goal.specs.Goal.{GoalValue}
use Rattle.hol_stack.specs.StackValue.{StepValue}
use Rattle.hol_theory.specs.Adding.{first_clash, missing}
use Rattle.hol_theory.specs.Entry.{Entries}
use Rattle.hol_theory.specs.Key.{KeyValue, key_text}
use Rattle.hol_exec.specs.declared.reports.refusal.RefusalKind.TheVariants as refusal
use Rattle.hol_exec.specs.Setup.{SetupValue}
use Rattle.hol_notation_commands.specs.Text.{DirectText, Back, Rotate, Oops, Import, Local, Direct}
use Rattle.hol_notation_reader.specs.Reading.{ReadText, Reads, Breaks}
use Rattle.hol_exec.specs.StateValue.{ProofValue, StateValue, EndedTheory, AreTheories}
use Rattle.hol_exec.specs.ReadsValue.{ReadsValue, AreReads}
use Rattle.hol_exec.specs.OutcomeValue.{OutcomeValue, Undoes, Rotates, Makes, Refuses}
use Rattle.hol_exec.specs.Local.{IsLocalOutcome}
use Rattle.hol_exec.specs.Tested.{TestedValue}
use Rattle.hol_theory.specs.Constants.{constant_names}

-- ---- `b`: no proof open; nothing to undo

abbrev pub undoes_to : List StepValue → OutcomeValue
undoes_to [] = Refuses refusal.NothingToUndo []
undoes_to (step ∷ earlier) = Undoes

abbrev pub undoes : Option ProofValue → OutcomeValue
undoes None = Refuses refusal.NoProofOpen []
undoes (Some p) = undoes_to p.earlier

-- ---- `r`: no proof open; no goal open

abbrev pub rotates_goals : ℕ → List GoalValue → OutcomeValue
rotates_goals times [] = Refuses refusal.NoGoalOpen []
rotates_goals times (goal ∷ goals) = Rotates times

abbrev pub rotates : ℕ → Option ProofValue → OutcomeValue
rotates times None = Refuses refusal.NoProofOpen []
rotates times (Some p) = rotates_goals times p.newest.goals

-- ---- `oops`: no proof open

abbrev pub drops : Option ProofValue → OutcomeValue
drops None = Refuses refusal.NoProofOpen []
drops (Some p) = Makes []

-- ---- `import`: in a proof; unknown theory; import clash

-- the last entries of the theory of that name
abbrev pub entries_named : List ℕ → List EndedTheory → Option Entries
entries_named name [] = None
entries_named name (theory ∷ more) = cond (bytes_eq theory.name name) (Some theory.entries) (entries_named name more)

-- those under whose keys nothing stands are made, in their order
abbrev pub imports_from : Entries → Entries → Option KeyValue → OutcomeValue
imports_from entries theory None = Makes (missing entries theory)
imports_from entries theory (Some key) = Refuses refusal.ImportClash (key_text key)

abbrev pub imports_theory : List ℕ → Entries → Option Entries → OutcomeValue
imports_theory name entries None = Refuses refusal.UnknownTheory name
imports_theory name entries (Some theory) = imports_from entries theory (first_clash entries theory)

abbrev pub imports : List ℕ → StateValue → List EndedTheory → OutcomeValue
imports name s earlier = cond (is_some s.proof) (Refuses refusal.InProof []) (imports_theory name s.entries (entries_named name earlier))

-- ---- the outcome of what is answered from the state and from the theories that stand earlier
abbrev pub direct : DirectText → StateValue → List EndedTheory → OutcomeValue
direct Back s earlier = undoes s.proof
direct (Rotate times) s earlier = rotates times s.proof
direct Oops s earlier = drops s.proof
direct (Import name) s earlier = imports name s earlier

-- the outcome of what a text reads as, from its reads, with the names that were tested for it: a text that breaks, and what is answered from the state, have no reads
abbrev pub IsOutcome : SetupValue → List EndedTheory → StateValue → ReadText → Option ReadsValue → TestedValue → OutcomeValue → Type 0
IsOutcome setup earlier s (Reads (Local command)) None tested outcome = ⊥
IsOutcome setup earlier s (Reads (Local command)) (Some reads) tested outcome = IsLocalOutcome setup (constant_names s.entries) command reads (record { outcome = outcome; tested = tested })
IsOutcome setup earlier s (Reads (Direct command)) None tested outcome = (outcome ≡ direct command s earlier) × (tested ≡ [])
IsOutcome setup earlier s (Reads (Direct command)) (Some reads) tested outcome = ⊥
IsOutcome setup earlier s (Breaks place) None tested outcome = (outcome ≡ Refuses refusal.Syntax (decimal place)) × (tested ≡ [])
IsOutcome setup earlier s (Breaks place) (Some reads) tested outcome = ⊥

-- an outcome that the state may get, where what stands earlier are theories
pub record IsOutcomeAt (s : StateValue) (outcome : OutcomeValue) : Type 0 where
  pub setup : SetupValue
  pub earlier : List EndedTheory
  pub theories : AreTheories earlier
  pub value : ReadText
  pub reads : Option ReadsValue
  pub tested : TestedValue
  pub read : AreReads value s reads
  pub gets : IsOutcome setup earlier s value reads tested outcome
