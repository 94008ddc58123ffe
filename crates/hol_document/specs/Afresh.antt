-- Running documents afresh: the theories in order, each from the prelude alone, and in each the commands in order, each at the state that
-- the ones before it lead to. A theory sees the names and the last entries of those that stand earlier.
-- Source: this project.
use Rattle.std.specs.Prelude.{◌≡◌, ℕ, List, [], ◌∷◌, ◌++◌, Option}
use Rattle.hol_exec.specs.Setup.{SetupValue}
use Rattle.hol_exec.specs.Reading.{ReadText, IsRead}
use Rattle.hol_exec.specs.StateValue.{StateValue, EndedTheory, start}
use Rattle.hol_exec.specs.ReadsValue.{ReadsValue, AreReads}
use Rattle.hol_exec.specs.OutcomeValue.{OutcomeValue, after}
use Rattle.hol_exec.specs.At.{IsOutcome}
use Rattle.hol_exec.specs.Tested.{TestedValue}
use Rattle.hol_document.specs.Documents.{TheoryText, Documents}

-- what running a text comes to: what it reads as, what that reads of the state, which names of constants were tested, and its outcome from these
pub record Row : Type 0 where
  pub value : ReadText
  pub reads : Option ReadsValue
  pub tested : TestedValue
  pub outcome : OutcomeValue

-- the row of a text at a state
pub record IsRow (setup : SetupValue) (earlier : List EndedTheory) (s : StateValue) (text : List ℕ) (row : Row) : Type 0 where
  pub parsed : IsRead text row.value
  pub read : AreReads row.value s row.reads
  pub gets : IsOutcome setup earlier s row.value row.reads row.tested row.outcome

-- The texts have these rows, each at the state that the one before it gives, and so lead from the first state to the last.
abbrev pub AreRows : SetupValue → List EndedTheory → StateValue → List (List ℕ) → List Row → StateValue → Type 0
AreRows setup earlier s [] [] last = last ≡ s
AreRows setup earlier s [] (row ∷ rows) last = ⊥
AreRows setup earlier s (text ∷ texts) [] last = ⊥
AreRows setup earlier s (text ∷ texts) (row ∷ rows) last =
    IsRow setup earlier s text row × AreRows setup earlier (after s row.outcome) texts rows last

-- what running a theory comes to: its name, its rows and its last state
pub record TheoryRun : Type 0 where
  pub name : List ℕ
  pub rows : List Row
  pub last : StateValue

abbrev pub ended : TheoryRun → EndedTheory
ended run = record { name = run.name; entries = run.last.entries }

-- a theory starts from the prelude alone
pub record IsRun (setup : SetupValue) (earlier : List EndedTheory) (theory : TheoryText) (run : TheoryRun) : Type 0 where
  pub named : run.name ≡ theory.name
  pub are : AreRows setup earlier start theory.commands run.rows run.last

-- The theories have these runs, each after those before it.
abbrev pub AreRuns : SetupValue → List EndedTheory → List TheoryText → List TheoryRun → Type 0
AreRuns setup earlier [] [] = Unit {0}
AreRuns setup earlier [] (run ∷ runs) = ⊥
AreRuns setup earlier (theory ∷ theories) [] = ⊥
AreRuns setup earlier (theory ∷ theories) (run ∷ runs) =
    IsRun setup earlier theory run × AreRuns setup (earlier ++ ended run ∷ []) theories runs

-- what running the documents afresh comes to
abbrev pub AreRunsOf : Documents → List TheoryRun → Type 0
AreRunsOf docs runs = AreRuns docs.setup [] docs.theories runs
