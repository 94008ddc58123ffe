-- States that are alike give the commands that read nothing changed the same rows, and stay alike.
use Rattle.std.specs.Prelude.{◌≡◌, ℕ, List, [], ◌∷◌, ◌++◌, Bool, true, false, cond, Option, Some, None, is_some, refl}
use Rattle.std.proofs.Common.{ap, sym, ◌∙◌, subst}
use Rattle.hol_theory.specs.Entry.{EntryValue, Entries, entry_at}
use Rattle.hol_theory.specs.Key.{KeyValue, key_eq}
use Rattle.hol_exec.specs.declared.reports.refusal.RefusalKind.TheVariants as refusal
use Rattle.hol_theory.specs.Constants.{constant_names}
use Rattle.hol_exec.proofs.Needing.{local_needs, local_told}
use Rattle.hol_exec.specs.Tested.{TestedValue, agrees}
use Rattle.hol_exec.specs.At.{IsOutcome, direct, undoes, rotates, drops, imports_theory}
use Rattle.hol_exec.specs.ChangedKeys.{IsApart, AreApart}
use Rattle.hol_exec.specs.CommandText.{LocalText, DirectText, Back, Rotate, Oops, Import, Local, Direct}
use Rattle.hol_exec.specs.Keys.{cited_keys, made_keys}
use Rattle.hol_exec.specs.OutcomeValue.{OutcomeValue, Opens, Leaves, Undoes, Rotates, Makes, Refuses, stepped_in, undone_in, rotated_in, after}
use Rattle.hol_exec.specs.Reading.{ReadText, Reads, Breaks}
use Rattle.hol_exec.specs.ReadsValue.{ReadsValue, values_of, goal_for, closing_for, reads_of, reads_at}
use Rattle.hol_exec.specs.Setup.{SetupValue}
use Rattle.hol_exec.specs.StateValue.{ProofValue, StateValue, EndedTheory, newest_of}
use Rattle.hol_document.specs.Afresh.{Row, IsRow}
use Rattle.hol_document.specs.Alike.{DriftValue, IsUntouched, AreAlike, IsPassedOver, ImportsAlike}

-- ---- entries one after the other

abbrev pub or_else : Option EntryValue → Option EntryValue → Option EntryValue
or_else None o = o
or_else (Some v) o = Some v

over : (b : Bool) (v : EntryValue) (rest all more : Option EntryValue) → all ≡ or_else rest more → cond b (Some v) all ≡ or_else (cond b (Some v) rest) more
over true v rest all more h = refl
over false v rest all more h = h

pub at_left : (key : KeyValue) (es more : Entries) → entry_at key (es ++ more) ≡ or_else (entry_at key es) (entry_at key more)
at_left key [] more = refl
at_left key (e ∷ es) more = over (key_eq key e.0) e.1 (entry_at key es) (entry_at key (es ++ more)) (entry_at key more) (at_left key es more)

made_alike : (key : KeyValue) (es fs more : Entries) → entry_at key es ≡ entry_at key fs → entry_at key (es ++ more) ≡ entry_at key (fs ++ more)
made_alike key es fs more h = at_left key es more ∙ ap (λ o. or_else o (entry_at key more)) h ∙ sym (at_left key fs more)

-- ---- reads

module _ (changed : List KeyValue) (a b : StateValue) (apart : (key : KeyValue) → IsApart changed key → entry_at key a.entries ≡ entry_at key b.entries) where
  values_alike : (keys : List KeyValue) → AreApart changed keys → values_of a.entries keys ≡ values_of b.entries keys
  values_alike [] h = refl
  values_alike (key ∷ keys) h = λ i. (key, apart key h.0 i) ∷ values_alike keys h.1 i

  pub reads_alike : (command : LocalText) → IsUntouched changed command → a.proof ≡ b.proof → reads_of command a ≡ reads_of command b
  reads_alike command h held = λ i. record {
    cited = values_alike (cited_keys command) h.0 i;
    made = values_alike (made_keys command) h.1 i;
    in_proof = is_some (held i);
    goal = goal_for command (held i);
    closing = closing_for command (held i);
  }

-- ---- one outcome after each of two states

pub next_alike : (drift : DriftValue) (a b : StateValue) (outcome : OutcomeValue)
    → AreAlike drift a b → AreAlike drift (after a outcome) (after b outcome)
next_alike drift a b (Opens name statement basis) h = record { apart = h.apart; whole = h.whole; held = λ p. refl }
next_alike drift a b (Leaves goal goals basis) h = record { apart = h.apart; whole = h.whole; held = λ p. ap (stepped_in goals basis) (h.held p) }
next_alike drift a b Undoes h = record { apart = h.apart; whole = h.whole; held = λ p. ap undone_in (h.held p) }
next_alike drift a b (Rotates times) h = record { apart = h.apart; whole = h.whole; held = λ p. ap (rotated_in times) (h.held p) }
next_alike drift a b (Makes es) h = record {
  apart = λ key k. made_alike key a.entries b.entries es (h.apart key k);
  whole = λ p. ap (λ (s : Entries). s ++ es) (h.whole p);
  held = λ p. refl;
}
next_alike drift a b (Refuses kind arg) h = h

-- the proof is the same where none is open in either
pub none_open : (p q : Option ProofValue) → newest_of p ≡ None → newest_of q ≡ None → p ≡ q
none_open None None h k = refl
none_open None (Some q) h k = absurd (cc)
none_open (Some p) q h k = absurd (cc)

pub closed_alike : (drift : DriftValue) (a b : StateValue) → newest_of a.proof ≡ None → newest_of b.proof ≡ None → AreAlike drift a b
    → AreAlike (record { changed = drift.changed; entries = drift.entries; proof = true }) a b
closed_alike drift a b h k alike = record { apart = alike.apart; whole = alike.whole; held = λ p. none_open a.proof b.proof h k }

-- nothing differs any more: the states are one
pub states_one : (drift : DriftValue) (a b : StateValue) → drift.entries ≡ true → drift.proof ≡ true → AreAlike drift a b → a ≡ b
states_one drift a b p q h = λ i. record { entries = h.whole p i; proof = h.held q i }

-- a state is like itself
pub alike_itself : (drift : DriftValue) (s : StateValue) → AreAlike drift s s
alike_itself drift s = record { apart = λ key k. refl; whole = λ p. refl; held = λ p. refl }

-- ---- rows

-- what is answered from the state, at the same state after theories that end alike
direct_alike : (command : DirectText) (s : StateValue) (before earlier : List EndedTheory) → ImportsAlike before earlier (Reads (Direct command)) → direct command s before ≡ direct command s earlier
direct_alike Back s before earlier same = refl
direct_alike (Rotate times) s before earlier same = refl
direct_alike Oops s before earlier same = refl
direct_alike (Import name) s before earlier same = ap (λ theory. cond (is_some s.proof) (Refuses refusal.InProof []) (imports_theory name s.entries theory)) same

-- the names that were tested are those of constants at the state, or not, as they were; what has no reads tested none
abbrev pub IsTold : StateValue → TestedValue → ReadText → Type 0
IsTold s tested (Reads (Local command)) = agrees tested s.entries ≡ true
IsTold s tested (Reads (Direct command)) = Unit {0}
IsTold s tested (Breaks place) = Unit {0}

-- a row's are, at its own state
pub row_told : (setup : SetupValue) (earlier : List EndedTheory) (s : StateValue) (text : List ℕ) (command : LocalText) (row : Row) → row.value ≡ Reads (Local command) → IsRow setup earlier s text row → agrees row.tested s.entries ≡ true
row_told setup earlier s text command row is h = by row.reads (subst (λ value. IsOutcome setup earlier s value row.reads row.tested row.outcome) is h.gets)
  where
    by : (reads : Option ReadsValue) → IsOutcome setup earlier s (Reads (Local command)) reads row.tested row.outcome → agrees row.tested s.entries ≡ true
    by None h = absurd h
    by (Some own) h = local_told setup (constant_names s.entries) command own (record { outcome = row.outcome; tested = row.tested }) h

-- so they are at a state with the same entries
pub told_here : (setup : SetupValue) (before : List EndedTheory) (s state : StateValue) (text : List ℕ) (command : LocalText) (row : Row) → row.value ≡ Reads (Local command) → s.entries ≡ state.entries → IsRow setup before s text row → agrees row.tested state.entries ≡ true
told_here setup before s state text command row is same h = subst (λ (es : Entries). agrees row.tested es ≡ true) same (row_told setup before s text command row is h)

-- a row that is passed over stands at the other state
pub row_passed : (setup : SetupValue) (before earlier : List EndedTheory) (drift : DriftValue) (a b : StateValue) (text : List ℕ) (row : Row)
    → AreAlike drift a b → IsPassedOver drift row.value → IsTold b row.tested row.value → IsRow setup before a text row → IsRow setup earlier b text row
row_passed setup before earlier drift a b text row alike passed told is = record {
  parsed = is.parsed;
  read = is.read ∙ reads row.value passed;
  gets = gets row.value row.reads row.tested row.outcome passed told is.gets;
}
  where
    reads : (value : ReadText) → IsPassedOver drift value → reads_at value a ≡ reads_at value b
    reads (Reads (Local command)) p = ap Some (reads_alike drift.changed a b alike.apart command p.0 (alike.held p.1))
    reads (Reads (Direct command)) p = refl
    reads (Breaks place) p = refl

    gets : (value : ReadText) (read : Option ReadsValue) (tested : TestedValue) (outcome : OutcomeValue) → IsPassedOver drift value → IsTold b tested value → IsOutcome setup before a value read tested outcome → IsOutcome setup earlier b value read tested outcome
    gets (Reads (Local command)) None tested outcome p told h = h
    gets (Reads (Local command)) (Some own) tested outcome p told h = local_needs setup (constant_names a.entries) (constant_names b.entries) command own (record { outcome = outcome; tested = tested }) h told
    gets (Reads (Direct Back)) None tested outcome p told h = (h.0 ∙ ap undoes (alike.held p), h.1)
    gets (Reads (Direct (Rotate times))) None tested outcome p told h = (h.0 ∙ ap (rotates times) (alike.held p), h.1)
    gets (Reads (Direct Oops)) None tested outcome p told h = (h.0 ∙ ap drops (alike.held p), h.1)
    gets (Reads (Direct (Import name))) None tested outcome p told h = absurd p
    gets (Reads (Direct command)) (Some own) tested outcome p told h = absurd h
    gets (Breaks place) None tested outcome p told h = h
    gets (Breaks place) (Some own) tested outcome p told h = h

-- the outcome of a row, where the reads at the other state are the same
pub row_read_again : (setup : SetupValue) (before earlier : List EndedTheory) (a b : StateValue) (text : List ℕ) (command : LocalText) (reads : ReadsValue) (row : Row)
    → row.value ≡ Reads (Local command) → row.reads ≡ Some reads → reads ≡ reads_of command b → agrees row.tested b.entries ≡ true → IsRow setup before a text row → IsRow setup earlier b text row
row_read_again setup before earlier a b text command reads row is read same told h = record {
  parsed = h.parsed;
  read = read ∙ (ap Some same ∙ sym (ap (λ value. reads_at value b) is));
  gets = subst (λ value. IsOutcome setup earlier b value row.reads row.tested row.outcome) (sym is) (subst (λ own. IsOutcome setup earlier b (Reads (Local command)) own row.tested row.outcome) (sym read)
      (local_needs setup (constant_names a.entries) (constant_names b.entries) command reads (record { outcome = row.outcome; tested = row.tested })
      (subst (λ own. IsOutcome setup before a (Reads (Local command)) own row.tested row.outcome) read (subst (λ value. IsOutcome setup before a value row.reads row.tested row.outcome) is h.gets)) told));
}

-- a row at the same state, after theories that end alike
pub row_elsewhere : (setup : SetupValue) (before earlier : List EndedTheory) (s : StateValue) (text : List ℕ) (row : Row)
    → ImportsAlike before earlier row.value → IsRow setup before s text row → IsRow setup earlier s text row
row_elsewhere setup before earlier s text row same h = record { parsed = h.parsed; read = h.read; gets = gets row.value row.reads row.tested row.outcome same h.gets }
  where
    gets : (value : ReadText) (read : Option ReadsValue) (tested : TestedValue) (outcome : OutcomeValue) → ImportsAlike before earlier value → IsOutcome setup before s value read tested outcome → IsOutcome setup earlier s value read tested outcome
    gets (Reads (Local command)) None tested outcome p h = h
    gets (Reads (Local command)) (Some own) tested outcome p h = h
    gets (Reads (Direct command)) None tested outcome p h = (h.0 ∙ direct_alike command s before earlier p, h.1)
    gets (Reads (Direct command)) (Some own) tested outcome p h = absurd h
    gets (Breaks place) None tested outcome p h = h
    gets (Breaks place) (Some own) tested outcome p h = h
