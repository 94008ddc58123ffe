-- What is answered to a question about the documents: what running them afresh says.
-- Source: this project.
use Rattle.std.specs.Prelude.{◌≡◌, ℕ, List, [], ◌∷◌, ◌++◌, ◌≤◌, ◌<◌, ⊤, length, map, take, Option, Some, None, Result, Ok, Err, slice_index_or}
use Rattle.hol_theory.specs.Key.{KeyValue, theorem_key}
use Rattle.hol_theory.specs.Entry.{EntryValue, AType, AConstant, ATheorem, ATac, Entries, entry_at}
use Rattle.hol_exec.specs.OutcomeValue.{after}
use Rattle.hol_exec.specs.ReportValue.{ReportValue}
use Rattle.hol_exec.specs.ReportOf.{report_of, entry_text}
use Rattle.hol_exec.specs.StateValue.{StateValue, start}
use Rattle.hol_document.specs.declared.error.Refusal.{Refusal}
use Rattle.hol_document.specs.declared.error.Refusal.TheVariants.{UnknownTheory, PositionOutOfRange}
use Rattle.hol_document.specs.declared.error.DocsError.{DocsError}
use Rattle.hol_document.specs.Documents.{Documents, find_theory, no_theory}
use Rattle.hol_document.specs.Afresh.{Row, IsRow, AreRows, TheoryRun, AreRuns, ended}
use Rattle.hol_document.specs.ItemTexts.{AreItemTexts}

-- the commands of the theory at a place
abbrev pub commands_at : Documents → ℕ → List (List ℕ)
commands_at docs i = (slice_index_or docs.theories i no_theory).commands

-- The first so many commands of the theory at a place, run afresh after the theories before it: the runs of these, the rows of the commands,
-- and the state that they lead to.
pub record IsRunUpTo (docs : Documents) (i count : ℕ) (before : List TheoryRun) (rows : List Row) (state : StateValue) : Type 0 where
  pub runs : AreRuns docs.setup [] (take i docs.theories) before
  pub leads : AreRows docs.setup (map ended before) start (take count (commands_at docs i)) rows state

-- ---- the report on the command at a place of a theory, or the first refusal that fits

-- What comes before the place is run afresh; the command there has a row after it, and the report is that on its outcome.
pub record IsReport (docs : Documents) (i at : ℕ) (report : ReportValue) : Type 0 where
  pub before : List TheoryRun
  pub rows : List Row
  pub state : StateValue
  pub run : IsRunUpTo docs i at before rows state
  pub row : Row
  pub here : IsRow docs.setup (map ended before) state (slice_index_or (commands_at docs i) at []) row
  pub says : report ≡ report_of row.outcome (after state row.outcome)

abbrev pub ReportedAt : Documents → ℕ → ℕ → Result ReportValue Refusal → Type 0
ReportedAt docs i at (Err refusal) = (refusal ≡ PositionOutOfRange) × (length (commands_at docs i) ≤ at)
ReportedAt docs i at (Ok report) = (at < length (commands_at docs i)) × IsReport docs i at report

abbrev pub ReportedIn : Documents → Option ℕ → ℕ → Result ReportValue Refusal → Type 0
ReportedIn docs None at answer = answer ≡ Err UnknownTheory
ReportedIn docs (Some i) at answer = ReportedAt docs i at answer

abbrev pub Reported : Documents → List ℕ → ℕ → Result ReportValue Refusal → Type 0
Reported docs name at answer = ReportedIn docs (find_theory name docs.theories) at answer

-- ---- the items of a theorem's basis at the end of a theory: nothing where no theorem of that name stands there

abbrev pub BasisTexts : Option EntryValue → Option (List (List ℕ)) → Type 0
BasisTexts None None = Unit {0}
BasisTexts None (Some texts) = ⊥
BasisTexts (Some (AType arity item basis)) answer = answer ≡ None
BasisTexts (Some (AConstant ty item basis)) answer = answer ≡ None
BasisTexts (Some (ATheorem th)) None = ⊥
BasisTexts (Some (ATheorem th)) (Some texts) = AreItemTexts th.basis texts
BasisTexts (Some (ATac e bases basis)) answer = answer ≡ None

-- The theory is run afresh, and the theorem of this name in its last state has this basis.
pub record IsBasis (docs : Documents) (i : ℕ) (name : List ℕ) (answer : Option (List (List ℕ))) : Type 0 where
  pub before : List TheoryRun
  pub rows : List Row
  pub state : StateValue
  pub run : IsRunUpTo docs i (length (commands_at docs i)) before rows state
  pub texts : BasisTexts (entry_at (theorem_key name) state.entries) answer

abbrev pub BasisIn : Documents → Option ℕ → List ℕ → Result (Option (List (List ℕ))) Refusal → Type 0
BasisIn docs None name answer = answer ≡ Err UnknownTheory
BasisIn docs (Some i) name (Ok answer) = IsBasis docs i name answer
BasisIn docs (Some i) name (Err refusal) = ⊥

abbrev pub BasisOf : Documents → List ℕ → List ℕ → Result (Option (List (List ℕ))) Refusal → Type 0
BasisOf docs theory name answer = BasisIn docs (find_theory theory docs.theories) name answer

-- ---- the theorems at the end of a theory, imported ones too, in standing order

-- the text of an entry that is a theorem
abbrev pub theorem_texts_of : KeyValue × EntryValue → List (List ℕ)
theorem_texts_of (key, AType arity item basis) = []
theorem_texts_of (key, AConstant ty item basis) = []
theorem_texts_of (key, ATheorem th) = entry_text (key, ATheorem th) ∷ []
theorem_texts_of (key, ATac e bases basis) = []

abbrev pub theorem_texts : Entries → List (List ℕ)
theorem_texts [] = []
theorem_texts (e ∷ entries) = theorem_texts_of e ++ theorem_texts entries

-- The theory is run afresh, and these are the theorems of its last state.
pub record AreTheorems (docs : Documents) (i : ℕ) (texts : List (List ℕ)) : Type 0 where
  pub before : List TheoryRun
  pub rows : List Row
  pub state : StateValue
  pub run : IsRunUpTo docs i (length (commands_at docs i)) before rows state
  pub says : texts ≡ theorem_texts state.entries

abbrev pub TheoremsIn : Documents → Option ℕ → Result (List (List ℕ)) Refusal → Type 0
TheoremsIn docs None answer = answer ≡ Err UnknownTheory
TheoremsIn docs (Some i) (Ok texts) = AreTheorems docs i texts
TheoremsIn docs (Some i) (Err refusal) = ⊥

abbrev pub TheoremsOf : Documents → List ℕ → Result (List (List ℕ)) Refusal → Type 0
TheoremsOf docs theory answer = TheoremsIn docs (find_theory theory docs.theories) answer

-- ---- an error is a refusal with this fact, or want of memory
abbrev pub IfRefused : (Refusal → Type 0) → DocsError → Type 0
IfRefused P (DocsError.Refused refusal) = P refusal
IfRefused P DocsError.Memory = ⊤
