-- What is true of the theorems that documents show: each is that of a `Thm`, so has a derivation over its basis, which is legal; in a theory the items of the entries,
-- in standing order, are a legal list, and each entry rests on those that stand up to it; and what a `qed` made, in this theory or in one that it may import, is the goal of the
-- last accepted `g`, without hypotheses.
-- Source: LCF's and HOL Light's promise of type thm, said of what is shown.
use Rattle.std.specs.Prelude.{◌≡◌, ◌<◌, ℕ, List, [], ◌∷◌, ◌++◌, length, Option, Some, None}
use Rattle.std.specs.List.{All, Contains}
use Rattle.hol_terms.specs.Nameless.{Nameless}
use Rattle.hol_kernel.specs.Sequent.{no_hyps}
use Rattle.hol_kernel.specs.Theorem.{Theorem}
use Rattle.hol_exec.specs.Reading.{ReadText, Reads, Breaks}
use Rattle.hol_exec.specs.CommandText.{Local, Direct, Goal, Apply, Qed, DefineTac, Make}
use Rattle.hol_theory.specs.Key.{KeyValue, theorem_key}
use Rattle.hol_theory.specs.Entry.{EntryValue, AType, AConstant, ATheorem, ATac, Entries}
use Rattle.hol_theory.specs.Theory.{IsTheory}
use Rattle.hol_exec.specs.OutcomeValue.{OutcomeValue, Opens, Leaves, Undoes, Rotates, Makes, Refuses, MakesTheorems, after}
use Rattle.hol_exec.specs.ReportValue.{ReportValue}
use Rattle.hol_document.specs.Documents.{Documents, find_theory}
use Rattle.hol_document.specs.Afresh.{Row, TheoryRun}
use Rattle.hol_document.specs.Asked.{commands_at, IsReport, IsBasis, AreTheorems}

-- ---- goals

-- the name and the statement of the `g` whose proof is open after an outcome
abbrev pub goal_after : Option (List ℕ × Nameless) → OutcomeValue → Option (List ℕ × Nameless)
goal_after goal (Opens name statement basis) = Some (name, statement)
goal_after goal (Leaves first goals basis) = goal
goal_after goal Undoes = goal
goal_after goal (Rotates times) = goal
goal_after goal (Makes entries) = None
goal_after goal (Refuses kind arg) = goal

-- the same after rows: the last `g` that was accepted, if no `qed` or `oops` came after it
abbrev pub open_goal : Option (List ℕ × Nameless) → List Row → Option (List ℕ × Nameless)
open_goal goal [] = goal
open_goal goal (row ∷ rows) = open_goal (goal_after goal row.outcome) rows

-- The entry is the theorem of the last `g` that the rows accepted: of its name, with its statement and without hypotheses.
pub record IsFinished (rows : List Row) (key : KeyValue) (th : Theorem) : Type 0 where
  pub name : List ℕ
  pub under : key ≡ theorem_key name
  pub goal : open_goal None rows ≡ Some (name, th.sequent.concl)
  pub without_hypotheses : th.sequent.hyps ≡ no_hyps

abbrev pub IsFinishedEntry : List Row → KeyValue × EntryValue → Type 0
IsFinishedEntry rows (key, AType arity item basis) = ⊥
IsFinishedEntry rows (key, AConstant ty item basis) = ⊥
IsFinishedEntry rows (key, ATheorem th) = IsFinished rows key th
IsFinishedEntry rows (key, ATac e bases basis) = ⊥

abbrev pub EachFinished : List Row → Entries → Type 0
EachFinished rows [] = Unit {0}
EachFinished rows (e ∷ entries) = IsFinishedEntry rows e × EachFinished rows entries

-- what an outcome after the rows makes
abbrev pub MakesFinished : List Row → OutcomeValue → Type 0
MakesFinished rows (Opens name statement basis) = Unit {0}
MakesFinished rows (Leaves goal goals basis) = Unit {0}
MakesFinished rows Undoes = Unit {0}
MakesFinished rows (Rotates times) = Unit {0}
MakesFinished rows (Makes entries) = EachFinished rows entries
MakesFinished rows (Refuses kind arg) = Unit {0}

-- the same of the outcome of a `qed`, of other commands nothing
abbrev pub FinishesBy : List Row → ReadText → OutcomeValue → Type 0
FinishesBy rows (Reads (Local (Goal name quotation))) outcome = Unit {0}
FinishesBy rows (Reads (Local (Apply call))) outcome = Unit {0}
FinishesBy rows (Reads (Local Qed)) outcome = MakesFinished rows outcome
FinishesBy rows (Reads (Local (DefineTac name tactic))) outcome = Unit {0}
FinishesBy rows (Reads (Local (Make making))) outcome = Unit {0}
FinishesBy rows (Reads (Direct command)) outcome = Unit {0}
FinishesBy rows (Breaks place) outcome = Unit {0}

-- each of the rows that is a `qed` made the theorem of the last `g` that the rows before it accepted
abbrev pub EachFinishes : List Row → List Row → Type 0
EachFinishes before [] = Unit {0}
EachFinishes before (row ∷ rows) = FinishesBy before row.value row.outcome × EachFinishes (before ++ row ∷ []) rows

-- The entry was made by one of the rows.
pub record IsMadeIn (rows : List Row) (entry : KeyValue × EntryValue) : Type 0 where
  pub before : List Row
  pub row : Row
  pub later : List Row
  pub splits : rows ≡ before ++ row ∷ later
  pub entries : Entries
  pub made : row.outcome ≡ Makes entries
  pub among : Contains entries entry

-- Each `qed` among a theory's rows made the theorem of the last `g` that was accepted before it, and each of the entries was made by one of the rows.
pub record AreMadeIn (rows : List Row) (entries : Entries) : Type 0 where
  pub finishes : EachFinishes [] rows
  pub each : All (IsMadeIn rows) entries

-- This is so of a theory that was run to its end: of what a later one imports it is said where it was proved.
abbrev pub IsFinishedRun : TheoryRun → Type 0
IsFinishedRun run = AreMadeIn run.rows run.last.entries

-- ---- what is shown

-- It is the report on an outcome; the entries of the state after it are a theory; every theorem which it makes has a derivation over its basis, which is legal; where the
-- command is a `qed`, it is the theorem of the last `g` that was accepted before it; and the theories before were run so.
pub record IsProvedReport (docs : Documents) (i at : ℕ) (report : ReportValue) : Type 0 where
  pub is : IsReport docs i at report
  pub stands : IsTheory (after is.state is.row.outcome).entries
  pub proved : MakesTheorems is.row.outcome
  pub finished : FinishesBy is.rows is.row.value is.row.outcome
  pub earlier : All IsFinishedRun is.before

-- It is the answer from a state whose entries are a theory: each theorem has a derivation over its basis, which is legal and has items that stand up to it alone; the rows
-- made the entries, and each `qed` the theorem of its `g`; and the theories before were run so.
pub record IsProvedBasis (docs : Documents) (i : ℕ) (name : List ℕ) (answer : Option (List (List ℕ))) : Type 0 where
  pub is : IsBasis docs i name answer
  pub proved : IsTheory is.state.entries
  pub made : AreMadeIn is.rows is.state.entries
  pub earlier : All IsFinishedRun is.before

-- The same of an answer that lists the theorems of a state.
pub record AreProvedTheorems (docs : Documents) (i : ℕ) (texts : List (List ℕ)) : Type 0 where
  pub are : AreTheorems docs i texts
  pub proved : IsTheory are.state.entries
  pub made : AreMadeIn are.rows are.state.entries
  pub earlier : All IsFinishedRun are.before

abbrev pub ShowsProvedIn : Documents → Option ℕ → ℕ → ReportValue → Type 0
ShowsProvedIn docs None at report = ⊥
ShowsProvedIn docs (Some i) at report = (at < length (commands_at docs i)) × IsProvedReport docs i at report

abbrev pub ShowsProved : Documents → List ℕ → ℕ → ReportValue → Type 0
ShowsProved docs theory at report = ShowsProvedIn docs (find_theory theory docs.theories) at report

abbrev pub TellsOfProvedIn : Documents → Option ℕ → List ℕ → Option (List (List ℕ)) → Type 0
TellsOfProvedIn docs None name answer = ⊥
TellsOfProvedIn docs (Some i) name answer = IsProvedBasis docs i name answer

abbrev pub TellsOfProved : Documents → List ℕ → List ℕ → Option (List (List ℕ)) → Type 0
TellsOfProved docs theory name answer = TellsOfProvedIn docs (find_theory theory docs.theories) name answer

abbrev pub ListsProvedIn : Documents → Option ℕ → List (List ℕ) → Type 0
ListsProvedIn docs None texts = ⊥
ListsProvedIn docs (Some i) texts = AreProvedTheorems docs i texts

abbrev pub ListsProved : Documents → List ℕ → List (List ℕ) → Type 0
ListsProved docs theory texts = ListsProvedIn docs (find_theory theory docs.theories) texts
