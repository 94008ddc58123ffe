-- Where the theorems of a theory come from, and the axioms on which they rest.
-- Source: this project.
use Rattle.std.specs.Prelude.{◌≡◌, ℕ, List, [], ◌∷◌, ◌++◌, map, slice_index_or}
use Rattle.hol_terms.specs.Nameless.{Nameless}
use Rattle.hol_kernel.specs.Item.{declared_axiom}
use Rattle.hol_kernel.specs.Items.{Holds}
use Rattle.hol_kernel.specs.Sequent.{no_hyps, sequent_of}
use Rattle.hol_kernel.specs.Theorem.{Theorem}
use Rattle.hol_notation_terms.specs.Text.{QuotationText}
use Rattle.hol_notation_commands.specs.Text.{MakingText, NewType, NewConstant, NewAxiom, NewDefinition, NewBasicTypeDefinition, Local, Direct, Goal, Apply, Qed, DefineTac, Make, Import}
use Rattle.hol_notation_reader.specs.Reading.{ReadText, Reads, Breaks}
use Rattle.hol_theory.specs.Key.{KeyValue, theorem_key}
use Rattle.hol_theory.specs.Entry.{EntryValue, AType, AConstant, ATheorem, ATac, entry_basis}
use Rattle.hol_exec.specs.StateValue.{StateValue}
use Rattle.hol_document.specs.Documents.{Documents}
use Rattle.hol_document.specs.Afresh.{Row, IsRow, TheoryRun, ended}
use Rattle.hol_document.specs.Asked.{commands_at, IsRunUpTo}
use Rattle.hol_document.specs.Shown.{IsMadeIn}

-- an axiom, a definition or a type definition
abbrev pub StatesTheorem : MakingText → Type 0
StatesTheorem (NewType name arity) = ⊥
StatesTheorem (NewConstant name quotation) = ⊥
StatesTheorem (NewAxiom name quotation) = Unit {0}
StatesTheorem (NewDefinition name definition) = Unit {0}
StatesTheorem (NewBasicTypeDefinition definition) = Unit {0}

-- a `qed`, an axiom, a definition or a type definition
abbrev pub MakesTheorem : ReadText → Type 0
MakesTheorem (Reads (Local (Goal name quotation))) = ⊥
MakesTheorem (Reads (Local (Apply tactic))) = ⊥
MakesTheorem (Reads (Local Qed)) = Unit {0}
MakesTheorem (Reads (Local (DefineTac name tactic))) = ⊥
MakesTheorem (Reads (Local (Make making))) = StatesTheorem making
MakesTheorem (Reads (Direct command)) = ⊥
MakesTheorem (Breaks place) = ⊥

-- A theorem of a theory with these rows, after these runs of the theories before it: one of the rows made it, as a `qed`, an axiom, a definition or a type definition; or imported
-- it from one of those theories, where it comes from such a row.
pub data ComesFrom : List TheoryRun → List Row → KeyValue → Theorem → Type 0 where
  by_command : (earlier : List TheoryRun) (rows : List Row) (key : KeyValue) (th : Theorem) (made : IsMadeIn rows (key, ATheorem th)) → MakesTheorem made.row.value
      → ComesFrom earlier rows key th
  by_import : (earlier : List TheoryRun) (rows : List Row) (key : KeyValue) (th : Theorem) (made : IsMadeIn rows (key, ATheorem th))
      (before : List TheoryRun) (run : TheoryRun) (later : List TheoryRun) → earlier ≡ before ++ run ∷ later → made.row.value ≡ Reads (Direct (Import run.name))
      → ComesFrom before run.rows key th → ComesFrom earlier rows key th

-- the same of an entry, if it is a theorem
abbrev pub HasOrigin : List TheoryRun → List Row → KeyValue × EntryValue → Type 0
HasOrigin earlier rows (key, AType arity item basis) = Unit {0}
HasOrigin earlier rows (key, AConstant ty item basis) = Unit {0}
HasOrigin earlier rows (key, ATheorem th) = ComesFrom earlier rows key th
HasOrigin earlier rows (key, ATac e bases basis) = Unit {0}

-- An axiom of this name and statement: one of the rows is a `new_axiom` that stated it, or imported something from one of the theories before where one stated it.
pub data IsStated : List TheoryRun → List Row → List ℕ → Nameless → Type 0 where
  by_new_axiom : (earlier : List TheoryRun) (rows : List Row) (name : List ℕ) (p : Nameless) (th : Theorem) (made : IsMadeIn rows (theorem_key name, ATheorem th)) (quotation : QuotationText)
      → made.row.value ≡ Reads (Local (Make (NewAxiom name quotation))) → th.sequent ≡ sequent_of no_hyps p → IsStated earlier rows name p
  with_import : (earlier : List TheoryRun) (rows : List Row) (name : List ℕ) (p : Nameless) (entry : KeyValue × EntryValue) (made : IsMadeIn rows entry)
      (before : List TheoryRun) (run : TheoryRun) (later : List TheoryRun) → earlier ≡ before ++ run ∷ later → made.row.value ≡ Reads (Direct (Import run.name))
      → IsStated before run.rows name p → IsStated earlier rows name p

-- so is each axiom on which the entry rests
abbrev pub RestsOnStated : List TheoryRun → List Row → KeyValue × EntryValue → Type 0
RestsOnStated earlier rows entry = (name : List ℕ) (p : Nameless) → Holds (entry_basis entry.1) (declared_axiom name p) → IsStated earlier rows name p

-- It was stated when the documents are run afresh: by a command, or up to one.
pub data IsStatedIn (docs : Documents) (name : List ℕ) (p : Nameless) : Type 0 where
  at_command : (i at : ℕ) (before : List TheoryRun) (rows : List Row) (state : StateValue) → IsRunUpTo docs i at before rows state
      → (row : Row) → IsRow docs.setup (map ended before) state (slice_index_or (commands_at docs i) at []) row → IsStated before (rows ++ row ∷ []) name p → IsStatedIn docs name p
  up_to : (i count : ℕ) (before : List TheoryRun) (rows : List Row) (state : StateValue) → IsRunUpTo docs i count before rows state → IsStated before rows name p → IsStatedIn docs name p
