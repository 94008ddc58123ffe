-- What private functions promise each other of running texts at a state, and of what stood there before an edit.
use Rattle.std.specs.Prelude.{◌≡◌, ◌+◌, ◌≤◌, ◌<◌, ℕ, List, ◌++◌, map, slice_set, Option, Some, None}
use Rattle.std.specs.List.{insert, remove}
use Rattle.hol_exec.specs.At.{IsOutcome}
use Rattle.hol_exec.specs.CommandText.{LocalText, Local}
use Rattle.hol_exec.specs.OutcomeValue.{OutcomeValue, after}
use Rattle.hol_exec.specs.Reading.{ReadText, Reads}
use Rattle.hol_exec.specs.ReadsValue.{ReadsValue, AreReads, AreKeyed}
use Rattle.hol_exec.specs.Setup.{SetupValue}
use Rattle.hol_exec.specs.Tested.{TestedValue}
use Rattle.hol_exec.specs.StateValue.{StateValue, EndedTheory, start}
use Rattle.hol_document.specs.declared.redo.Edit.{Edit}
use Rattle.hol_document.specs.declared.redo.Edit.TheVariants as edit
use Rattle.hol_document.specs.Affected.{EditPlace, InsertsAt, ReplacesAt, RemovesAt, counts, affected_rows, affected_in, rows_before}
use Rattle.hol_document.specs.Afresh.{Row}
use Rattle.hol_document.specs.Alike.{DriftValue, AreAlike}
use Rattle.hol_document.specs.Documents.{TheoryText}
use Rattle.hol_document.specs.Slots.{SlotValue, IsSlot, AreSlots, StandingValue, AreStanding, ended_of, text_of, run_of}

-- what is read at the state, and the outcome from that
pub record IsAnswer (setup : SetupValue) (earlier : List EndedTheory) (s : StateValue) (value : ReadText) (reads : Option ReadsValue) (tested : TestedValue) (outcome : OutcomeValue) : Type 0 where
  pub read : AreReads value s reads
  pub gets : IsOutcome setup earlier s value reads tested outcome

-- the reads of a command are under its keys
abbrev pub IsKeyed : Row → Type 0
IsKeyed row = (command : LocalText) → row.value ≡ Reads (Local command) → (reads : ReadsValue) × (row.reads ≡ Some reads) × AreKeyed command reads

-- the slot stood at some state, which is like this one
abbrev pub StoodAlike : SetupValue → DriftValue → SlotValue → StateValue → Type 0
StoodAlike setup drift slot state = (before : List EndedTheory) × (s : StateValue) × IsSlot setup before s slot × AreAlike drift s state

-- the slots stood from some state on, which is like this one
abbrev pub HaveStood : SetupValue → DriftValue → List SlotValue → StateValue → Type 0
HaveStood setup drift slots state = (before : List EndedTheory) × (s last : StateValue) × AreSlots setup before s slots last × AreAlike drift s state

-- where the slots stand from the first state on, the later ones of them do so from this one on
abbrev pub LeadTo : List SlotValue → List SlotValue → StateValue → Type 0
LeadTo slots later s = (setup : SetupValue) (before : List EndedTheory) (last : StateValue) → AreSlots setup before start slots last → AreSlots setup before s later last

abbrev pub rows_of : List SlotValue → List Row
rows_of slots = map (λ (slot : SlotValue). slot.row) slots

abbrev pub texts_of : List SlotValue → List (List ℕ)
texts_of slots = map (λ (slot : SlotValue). slot.text) slots

-- The new slots have the texts of the old ones, stand from the state on and lead to the last; what was run for them is counted.
pub record AreRedone (setup : SetupValue) (earlier : List EndedTheory) (s : StateValue) (olds : List (Option Row)) (texts : List (List ℕ)) (ran ran_after : ℕ) (news : List SlotValue) (last : StateValue) : Type 0 where
  pub are : AreSlots setup earlier s news last
  pub texts_are : texts_of news ≡ texts
  pub few : ran_after ≤ ran + affected_rows olds (rows_of news)

-- To the slots at the front those were added that were redone of the old ones.
abbrev pub HaveAdded : SetupValue → List EndedTheory → StateValue → List SlotValue → ℕ → ℕ → List SlotValue → List SlotValue → StateValue → Type 0
HaveAdded setup earlier s olds ran ran_after front slots last =
    (news : List SlotValue) × (slots ≡ front ++ news) × AreRedone setup earlier s (map Some (rows_of olds)) (texts_of olds) ran ran_after news last

-- the slots that are left stood from a state on that is like this one
abbrev pub HaveLeft : SetupValue → List EndedTheory → DriftValue → List SlotValue → StateValue → StateValue → Type 0
HaveLeft setup before drift slots last state = (s : StateValue) × AreSlots setup before s slots last × AreAlike drift s state

-- The new theories have the names and the texts of the old ones and stand after those; what was run for them is counted.
pub record AreFollowing (setup : SetupValue) (earlier : List EndedTheory) (olds : List StandingValue) (ran ran_after : ℕ) (news : List StandingValue) : Type 0 where
  pub are : AreStanding setup earlier news
  pub texts_are : map text_of news ≡ map text_of olds
  pub few : ran_after ≤ ran + affected_in (map rows_before (map run_of olds)) (map run_of news)

-- ---- edits of one theory

-- the texts after the edit at a place
abbrev pub edited_texts : Edit → ℕ → List (List ℕ) → List (List ℕ)
edited_texts (edit.Insert line) at texts = insert texts at line.value.text
edited_texts (edit.Replace line) at texts = slice_set texts at line.value.text
edited_texts edit.Remove at texts = remove texts at

-- the theory after the edit at a place
abbrev pub edited_text : Edit → ℕ → TheoryText → TheoryText
edited_text edit at theory = record { name = theory.name; commands = edited_texts edit at theory.commands }

-- beside each text after the edit, the row that it had, if it stood there
abbrev pub rows_beside : Edit → ℕ → List (Option Row) → List (Option Row)
rows_beside (edit.Insert line) at rows = insert rows at None
rows_beside (edit.Replace line) at rows = slice_set rows at None
rows_beside edit.Remove at rows = remove rows at

abbrev pub edit_place : Edit → ℕ → ℕ → EditPlace
edit_place (edit.Insert line) at i = InsertsAt i at
edit_place (edit.Replace line) at i = ReplacesAt i at
edit_place edit.Remove at i = RemovesAt i at

-- the edit can be made at the place of so many commands
abbrev pub FitsAt : Edit → ℕ → ℕ → Type 0
FitsAt (edit.Insert line) at count = at ≤ count
FitsAt (edit.Replace line) at count = at < count
FitsAt edit.Remove at count = at < count

-- A slot of this text was put after the others, where it stands at the state; what was run for it is counted.
pub record IsPut (setup : SetupValue) (earlier : List EndedTheory) (s : StateValue) (text : List ℕ) (ran ran_after : ℕ) (slot : SlotValue) (next : StateValue) : Type 0 where
  pub is : IsSlot setup earlier s slot
  pub says : slot.text ≡ text
  pub leads : next ≡ after s slot.row.outcome
  pub few : ran_after ≤ ran + counts None slot.row

-- The slots of a theory with these texts, which stand beside these rows of before; what was run for them is counted.
pub record IsEdited (setup : SetupValue) (earlier : List EndedTheory) (texts : List (List ℕ)) (olds : List (Option Row)) (ran ran_after : ℕ) (slots : List SlotValue) (last : StateValue) : Type 0 where
  pub are : AreSlots setup earlier start slots last
  pub texts_are : texts_of slots ≡ texts
  pub few : ran_after ≤ ran + affected_rows olds (rows_of slots)

-- To the theories at the front those were added that follow.
abbrev pub HaveFollowed : SetupValue → List StandingValue → List StandingValue → ℕ → ℕ → List StandingValue → Type 0
HaveFollowed setup front olds ran ran_after done = (news : List StandingValue) × (done ≡ front ++ news) × AreFollowing setup (map ended_of front) olds ran ran_after news
