-- Outcomes that have left their slots: what puts them in, and what is found.
use Rattle.std.specs.List.{list_all}
use Rattle.std.specs.Prelude.{◌≡◌, ℕ, List, Bool, true, Option, Some, None, Result, Ok, Err, OnOk, OnErr, Contains, refl}
use Rattle.std.proofs.Common.{sym, ◌∙◌, subst, inl, inr}
use Rattle.lru.specs.LruCache.{LruCache, lru_cache, put_entries}
use Rattle.lru.proofs.CallerLemmas.{Contains-put_entries}
use Rattle.hol_exec.specs.At.{IsOutcome}
use Rattle.hol_exec.specs.CommandText.{LocalText, Local, Direct}
use Rattle.hol_exec.specs.Local.{LocalValue, IsLocalOutcome}
use Rattle.hol_exec.specs.Tested.{TestedValue, is_marked}
use Rattle.hol_exec.proofs.Needing.{local_needs}
use Rattle.hol_theory.specs.Constants.{constant_names}
use Rattle.hol_exec.specs.OutcomeValue.{OutcomeValue}
use Rattle.hol_exec.specs.Reading.{ReadText, Reads, Breaks, IsRead}
use Rattle.hol_exec.specs.ReadsValue.{ReadsValue}
use Rattle.hol_exec.specs.Setup.{SetupValue}
use Rattle.hol_exec.specs.StateValue.{StateValue, EndedTheory}
use Rattle.hol_exec.proofs.Unique.{one_text}
use Rattle.hol_document.specs.Runs.{RunValue, IsRun}
use Rattle.hol_document.specs.Slots.{SlotValue, IsSlot}

-- ---- a slot's outcome

outcome_run : (setup : SetupValue) (earlier : List EndedTheory) (s : StateValue) (text : List ℕ) (value : ReadText) (reads : ReadsValue) (tested : TestedValue) (outcome : OutcomeValue)
    → IsRead text value → IsOutcome setup earlier s value (Some reads) tested outcome → IsRun setup (record { text = text; value = value; reads = reads; tested = tested; outcome = outcome })
outcome_run setup earlier s text (Reads (Local command)) reads tested outcome parsed gets = record { parsed = parsed; command = command; reads_as = refl; names = constant_names s.entries; gets = gets }
outcome_run setup earlier s text (Reads (Direct command)) reads tested outcome parsed gets = absurd gets
outcome_run setup earlier s text (Breaks place) reads tested outcome parsed gets = absurd gets

-- what a slot that read something came to
pub slot_run : (setup : SetupValue) (earlier : List EndedTheory) (s : StateValue) (slot : SlotValue) (reads : ReadsValue) → slot.row.reads ≡ Some reads → IsSlot setup earlier s slot
    → IsRun setup (record { text = slot.text; value = slot.row.value; reads = reads; tested = slot.row.tested; outcome = slot.row.outcome })
slot_run setup earlier s slot reads e is =
    outcome_run setup earlier s slot.text slot.row.value reads slot.row.tested slot.row.outcome is.row.parsed (subst (λ r. IsOutcome setup earlier s slot.row.value r slot.row.tested slot.row.outcome) e is.row.gets)

-- ---- what is found

same_command : (a b : LocalText) → Reads (Local a) ≡ Reads (Local b) → a ≡ b
same_command a b e = cc

-- a run of the same text and the same reads is the command's, where constants have the names that agree with what it tested
pub found_run : (setup : SetupValue) (names : List (List ℕ)) (run : RunValue) (text : List ℕ) (value : ReadText) (command : LocalText) (reads : ReadsValue)
    → IsRun setup run → IsRead text value → run.text ≡ text → value ≡ Reads (Local command) → run.reads ≡ reads → list_all (is_marked names) run.tested ≡ true
    → IsLocalOutcome setup names command reads (record { outcome = run.outcome; tested = run.tested })
found_run setup names run text value command reads is read e v r told =
    let same : run.value ≡ value = one_text text run.value value (subst (λ t. IsRead t run.value) e is.parsed) read in
    let one : is.command ≡ command = same_command is.command command (sym is.reads_as ∙ (same ∙ v)) in
    let given : LocalValue = record { outcome = run.outcome; tested = run.tested } in
    local_needs setup is.names names command reads given (subst (λ c. IsLocalOutcome setup is.names c reads given) one (subst (λ rs. IsLocalOutcome setup is.names is.command rs given) r is.gets)) told

-- ---- what all entries of a cache have is kept

module _ {K V : Type 0} (eq : K → K → Bool) (c c' : LruCache K V) (k : K) (v : V) (P : V → Type 0) (all : (e : K × V) → Contains c.entries e → P e.1) (one : P v) where
  pub put_keeps : {T E : Type 0} (r : Result T E) → OnOk r (c' ≡ lru_cache (put_entries eq c k v) c.cap) → OnErr r (c' ≡ c) → (e : K × V) → Contains c'.entries e → P e.1
  put_keeps (Ok o) p q e at = elim (Contains-put_entries eq c k v e (rw p at at)) [
    | inl was ↦ all e was
    | inr put ↦ rw put.0 one
  ]
  put_keeps (Err o) p q e at = all e (rw q at at)
