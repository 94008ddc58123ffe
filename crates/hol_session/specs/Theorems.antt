-- What the texts of replies tell of theorems: each `thm N |- S` is of one that the documents make.
-- Source: LCF's and HOL Light's promise of the type thm, said of the bytes that a person reads.
use Rattle.std.specs.Prelude.{◌≡◌, ℕ, List, [], ◌++◌, codes, length, map, slice_index_or}
use Rattle.std.specs.List.{All, Contains}
use Rattle.hol_kernel.specs.Sequent.{no_hyps}
use Rattle.hol_kernel.specs.Theorem.{Theorem, IsTheorem}
use Rattle.hol_model.specs.Infinity.{NeedsInfinity, StatesFalsity, HasNoAxiom}
use Rattle.hol_theory.specs.Key.{theorem_key}
use Rattle.hol_theory.specs.Entry.{ATheorem, Entries}
use Rattle.hol_exec.specs.StateValue.{StateValue}
use Rattle.hol_exec.specs.OutcomeValue.{Makes}
use Rattle.hol_exec.specs.ReportOf.{theorem_text}
use Rattle.hol_exec.specs.ReportValue.{ReportValue, ShowsGoals, HasMade, WasRefused}
use Rattle.hol_document.specs.Documents.{Documents}
use Rattle.hol_document.specs.Afresh.{Row, IsRow, TheoryRun, ended}
use Rattle.hol_document.specs.Asked.{commands_at, IsRunUpTo}
use Rattle.hol_wire.specs.Replies.{ReplyValue, Refused, Done, Reports, Lists, RestsOn, Counts, Closed}

-- Running the documents afresh, a command makes the theorem under this name, or it stands under it where a theory ends.
pub data Stands (docs : Documents) (name : List ℕ) (th : Theorem) : Type 0 where
  at_command : (i at : ℕ) (before : List TheoryRun) (rows : List Row) (state : StateValue) → IsRunUpTo docs i at before rows state
      → (row : Row) → IsRow docs.setup (map ended before) state (slice_index_or (commands_at docs i) at []) row
      → (entries : Entries) → row.outcome ≡ Makes entries → Contains entries (theorem_key name, ATheorem th) → Stands docs name th
  at_end : (i : ℕ) (before : List TheoryRun) (rows : List Row) (state : StateValue) → IsRunUpTo docs i (length (commands_at docs i)) before rows state
      → Contains state.entries (theorem_key name, ATheorem th) → Stands docs name th

-- The text is `thm N |- S`, and S is the text of the conclusion of a theorem N that the documents make: it has a derivation over its basis, which is legal, and no hypotheses.
-- If it is |- F, and no item of its basis is an axiom, it has no derivation without the axiom of infinity, those of the members of its basis' types counted.
pub record TellsOfTheorem (docs : Documents) (text : List ℕ) : Type 0 where
  pub name : List ℕ
  pub th : Theorem
  pub says : text ≡ codes "thm " ++ name ++ codes " " ++ theorem_text th.sequent.concl
  pub stands : Stands docs name th
  pub derived : IsTheorem th
  pub without_hypotheses : th.sequent.hyps ≡ no_hyps
  pub consistent : StatesFalsity th → HasNoAxiom th.basis → NeedsInfinity th

-- the text does, if it begins as the text of a theorem
abbrev pub TellsIfTheorem : Documents → List ℕ → Type 0
TellsIfTheorem docs text = (rest : List ℕ) → text ≡ codes "thm " ++ rest → TellsOfTheorem docs text

abbrev pub MadeAreTheorems : Documents → ReportValue → Type 0
MadeAreTheorems docs (ShowsGoals goals) = Unit {0}
MadeAreTheorems docs (HasMade texts) = All (TellsIfTheorem docs) texts
MadeAreTheorems docs (WasRefused kind arg) = Unit {0}

-- What a reply over these documents tells of theorems is so: in what a command made, and in the list of a theory's theorems.
abbrev pub TellsOfTheorems : Documents → ReplyValue → Type 0
TellsOfTheorems docs (Refused refusal) = Unit {0}
TellsOfTheorems docs Done = Unit {0}
TellsOfTheorems docs (Reports report) = MadeAreTheorems docs report
TellsOfTheorems docs (Lists texts) = All (TellsOfTheorem docs) texts
TellsOfTheorems docs (RestsOn items) = Unit {0}
TellsOfTheorems docs (Counts count) = Unit {0}
TellsOfTheorems docs Closed = Unit {0}
