-- The commands that an edit affects: those that are inserted or replaced, and those whose reads are others than they were, the names of constants
-- that their runs tested among these, each with whether it stood. A text that is no command, and what is answered from the state, has no reads and is never
-- counted.
-- Source: this project.
use Rattle.std.specs.Prelude.{◌≡◌, ℕ, zero, suc, ◌+◌, ◌≤◌, Bool, true, false, List, [], ◌∷◌, cond, map, slice_set, Option, Some, None}
use Rattle.std.specs.List.{insert, remove}
use Rattle.hol_exec.specs.ReadsValue.{ReadsValue}
use Rattle.hol_exec.specs.SameReads.{same_reads, same_tested}
use Rattle.hol_document.specs.Documents.{Documents, find_theory}
use Rattle.hol_document.specs.Afresh.{Row, TheoryRun, AreRunsOf}

-- where an edit is made: the theory's place, and the place of the command in it
pub data EditPlace : Type 0 where
  AddsTheory : ℕ → EditPlace
  DropsTheory : ℕ → EditPlace
  InsertsAt : ℕ → ℕ → EditPlace
  ReplacesAt : ℕ → ℕ → EditPlace
  RemovesAt : ℕ → ℕ → EditPlace

-- ---- one command: 1 where it is counted

-- its reads beside those that it had, if it stood there
abbrev pub counts_beside : Option ReadsValue → Option ReadsValue → ℕ
counts_beside old None = 0
counts_beside None (Some reads) = 1
counts_beside (Some old) (Some reads) = cond (same_reads old reads) 0 1

-- where other names were tested, or these stand otherwise, it is as if it hadn't stood there
abbrev pub counts_where : Bool → Option ReadsValue → Option ReadsValue → ℕ
counts_where true old reads = counts_beside old reads
counts_where false old reads = counts_beside None reads

abbrev pub counts : Option Row → Row → ℕ
counts None row = counts_beside None row.reads
counts (Some old) row = counts_where (same_tested old.tested row.tested) old.reads row.reads

-- ---- the sums, in a theory and over theories

abbrev pub affected_rows : List (Option Row) → List Row → ℕ
affected_rows [] rows = 0
affected_rows (old ∷ olds) [] = 0
affected_rows (old ∷ olds) (row ∷ rows) = counts old row + affected_rows olds rows

abbrev pub affected_in : List (List (Option Row)) → List TheoryRun → ℕ
affected_in [] runs = 0
affected_in (olds ∷ more) [] = 0
affected_in (olds ∷ more) (run ∷ runs) = affected_rows olds run.rows + affected_in more runs

-- ---- what stood before an edit, beside what stands after it

-- the rows of a theory before the edit
abbrev pub rows_before : TheoryRun → List (Option Row)
rows_before run = map Some run.rows

-- the list with the element at the place changed
abbrev pub changed_at : {X : Type 0} → (X → X) → ℕ → List X → List X
changed_at f i [] = []
changed_at f zero (x ∷ xs) = f x ∷ xs
changed_at f (suc i) (x ∷ xs) = x ∷ changed_at f i xs

-- beside each command that stands after the edit, the row that it had before it, if it stood there: one that is inserted or replaced has none
abbrev pub beside : EditPlace → List (List (Option Row)) → List (List (Option Row))
beside (AddsTheory i) olds = insert olds i []
beside (DropsTheory i) olds = remove olds i
beside (InsertsAt i at) olds = changed_at (λ rows. insert rows at None) i olds
beside (ReplacesAt i at) olds = changed_at (λ rows. slice_set rows at None) i olds
beside (RemovesAt i at) olds = changed_at (λ rows. remove rows at) i olds

-- how many commands the edit at the place affects, from what the documents came to before and after it
abbrev pub affected : EditPlace → List TheoryRun → List TheoryRun → ℕ
affected place before runs = affected_in (beside place (map rows_before before)) runs

-- ---- an edit

-- The edit at the place made the second documents of the first, and raised the number of runs by no more than the commands that it affects.
pub record RunsAffected (old new : Documents) (place : EditPlace) (ran ran_after : ℕ) : Type 0 where
  pub before : List TheoryRun
  pub stood : AreRunsOf old before
  pub runs : List TheoryRun
  pub stand : AreRunsOf new runs
  pub few : ran_after ≤ ran + affected place before runs

-- The same of an edit in the theory of that name, or of that theory.
pub record RunsAt (place : ℕ → EditPlace) (name : List ℕ) (old new : Documents) (ran ran_after : ℕ) : Type 0 where
  pub i : ℕ
  pub found : find_theory name old.theories ≡ Some i
  pub affected : RunsAffected old new (place i) ran ran_after
