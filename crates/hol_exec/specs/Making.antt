-- The outcome of a command that makes types, constants, axioms and definitions, from what it reads, with its refusals in their order.
-- Sources: HOL Light's fusion.ml (new_type, new_constant, new_axiom, new_basic_definition, new_basic_type_definition) and bool.ml (new_definition); the
-- order of refusals is this project's.
use Rattle.std.specs.Prelude.{◌≡◌, ℕ, List, [], ◌∷◌, ◌++◌, Bool, true, false, codes, decimal, length, Option, Some, None}
use Rattle.hol_types.specs.Tree.{TypeTree}
use Rattle.hol_terms.specs.Nameless.{Nameless, fixed, nameless_type}
use Rattle.hol_formulas.specs.Equation.{bool_type, dest_comb}
use Rattle.hol_equal.specs.Applied.{rand}
use Rattle.hol_definition.specs.ForAll.{for_all}
use Rattle.hol_kernel.specs.Items.{Items, no_items}
use Rattle.hol_kernel.specs.Sequent.{no_hyps}
use Rattle.hol_kernel.specs.Theorem.{Theorem, theorem_over}
use Rattle.hol_kernel.specs.Typing.{is_type_at}
use Rattle.hol_notation_terms.specs.Text.{QuotationText, TypeQuotationText, DefinitionText}
use Rattle.hol_notation_commands.specs.Text.{TypeDefinitionText, MakingText, NewType, NewConstant, NewAxiom, NewDefinition, NewBasicTypeDefinition}
use Rattle.hol_resolve.specs.Reading.{ReadingValue, WrongArity, NoTyping, LargeReading, ReadsAs, IsTermReadAs, type_reading}
use Rattle.hol_resolve.specs.Readings.{ATerm, AType}
use Rattle.hol_theory.specs.Key.{KeyValue, theorem_key, key_text}
use Rattle.hol_theory.specs.Entry.{EntryValue, ATheorem, Entries}
use Rattle.hol_theory.specs.Making.{IsNewType, IsNewConstant, IsNewAxiom, IsNewDefinition, IsNewTypeDefinition}
use Rattle.hol_exec.specs.declared.reports.refusal.RefusalKind.TheVariants as refusal
use Rattle.hol_exec.specs.ReadsValue.{ReadsValue}
use Rattle.hol_exec.specs.Signature.{signature_of}
use Rattle.hol_exec.specs.Resolved.{cited_theorem, resolved_basis}
use Rattle.hol_exec.specs.Standing.{first_taken}
use Rattle.hol_exec.specs.Defining.{IsDefinitionReadAs, first_free, first_unreflected}
use Rattle.hol_exec.specs.OutcomeValue.{OutcomeValue, Makes, Refuses}

-- name taken: refused with the key, if there is one; and else the outcome is one of these
abbrev pub UnlessTaken : Option KeyValue → (OutcomeValue → Type 0) → OutcomeValue → Type 0
UnlessTaken None Made outcome = Made outcome
UnlessTaken (Some key) Made outcome = outcome ≡ Refuses refusal.NameTaken (key_text key)

-- the first key that the command makes under which something stands, or which it makes twice
abbrev pub taken : ReadsValue → Option KeyValue
taken reads = first_taken [] reads.made

-- one entry is made
abbrev pub MakesOne : (KeyValue × EntryValue → Type 0) → OutcomeValue → Type 0
MakesOne Is outcome = (entry : KeyValue × EntryValue) × Is entry × (outcome ≡ Makes (entry ∷ []))

-- ---- new_type

abbrev pub MakesType : List ℕ → ℕ → ReadsValue → OutcomeValue → Type 0
MakesType name arity reads outcome = UnlessTaken (taken reads) (MakesOne (IsNewType no_items name arity)) outcome

-- ---- new_constant: arity; too large; name taken

abbrev pub constant_basis : ReadsValue → ℕ → TypeTree → Items
constant_basis reads place a = resolved_basis reads.cited ((place, AType a) ∷ [])

abbrev pub MakesConstantOf : List ℕ → ℕ → ReadsValue → ReadingValue TypeTree → OutcomeValue → Type 0
MakesConstantOf name place reads WrongArity outcome = outcome ≡ Refuses refusal.Arity (decimal place)
MakesConstantOf name place reads NoTyping outcome = outcome ≡ Refuses refusal.Untypable (decimal place)
MakesConstantOf name place reads LargeReading outcome = outcome ≡ Refuses refusal.TooLarge []
MakesConstantOf name place reads (ReadsAs a) outcome = UnlessTaken (taken reads) (MakesOne (IsNewConstant (constant_basis reads place a) name a)) outcome

abbrev pub MakesConstant : List ℕ → TypeQuotationText → ReadsValue → OutcomeValue → Type 0
MakesConstant name quotation reads outcome = MakesConstantOf name quotation.place reads (type_reading (signature_of reads.cited) quotation.ty) outcome

-- ---- new_axiom: arity; untypable; too large; not bool; name taken

abbrev pub formula_basis : ReadsValue → ℕ → Nameless → Items
formula_basis reads place p = resolved_basis reads.cited ((place, ATerm p) ∷ [])

abbrev pub StatesAxiom : List ℕ → ℕ → ReadsValue → Nameless → Bool → OutcomeValue → Type 0
StatesAxiom name place reads p true outcome = UnlessTaken (taken reads) (MakesOne (IsNewAxiom (formula_basis reads place p) name p)) outcome
StatesAxiom name place reads p false outcome = outcome ≡ Refuses refusal.NotBool (decimal place)

abbrev pub MakesAxiomOf : List ℕ → ℕ → ReadsValue → ReadingValue Nameless → OutcomeValue → Type 0
MakesAxiomOf name place reads WrongArity outcome = outcome ≡ Refuses refusal.Arity (decimal place)
MakesAxiomOf name place reads NoTyping outcome = outcome ≡ Refuses refusal.Untypable (decimal place)
MakesAxiomOf name place reads LargeReading outcome = outcome ≡ Refuses refusal.TooLarge []
MakesAxiomOf name place reads (ReadsAs p) outcome = StatesAxiom name place reads p (is_type_at (nameless_type [] p) bool_type) outcome

abbrev pub MakesAxiom : List ℕ → QuotationText → ReadsValue → OutcomeValue → Type 0
MakesAxiom name quotation reads outcome =
    (reading : ReadingValue Nameless) × IsTermReadAs (signature_of reads.cited) quotation.term reading × MakesAxiomOf name quotation.place reads reading outcome

-- ---- new_definition: arity; untypable; too large; name taken; not closed; type variables not reflected

-- The constant, and the theorem `!v1 .. vn. c v1 .. vn = r`, on the basis of its definition `|- c = \v1 .. vn. r`.
pub record MakesDefined (basis : Items) (name : List ℕ) (d : DefinitionText) (r : Nameless) (outcome : OutcomeValue) : Type 0 where
  pub entries : Entries
  pub definition : Theorem
  pub of_type : TypeTree
  pub typed : nameless_type [] r ≡ Some of_type
  pub new : IsNewDefinition basis d.name r entries definition
  pub makes : outcome ≡ Makes (entries
      ++ (theorem_key name, ATheorem (theorem_over definition.basis no_hyps (for_all (length d.parameters) of_type (fixed d.name of_type) r))) ∷ [])

abbrev pub UnlessOpen : Option (List ℕ) → Option (List ℕ) → (OutcomeValue → Type 0) → OutcomeValue → Type 0
UnlessOpen (Some x) unreflected Made outcome = outcome ≡ Refuses refusal.NotClosed x
UnlessOpen None (Some a) Made outcome = outcome ≡ Refuses refusal.NotReflected a
UnlessOpen None None Made outcome = Made outcome

abbrev pub DefinesBy : List ℕ → DefinitionText → ReadsValue → Nameless → Nameless → OutcomeValue → Type 0
DefinesBy name d reads p r outcome =
    UnlessTaken (taken reads) (UnlessOpen (first_free r) (first_unreflected r) (MakesDefined (formula_basis reads d.place p) name d r)) outcome

abbrev pub MakesDefinitionOf : List ℕ → DefinitionText → ReadsValue → ReadingValue Nameless → OutcomeValue → Type 0
MakesDefinitionOf name d reads WrongArity outcome = outcome ≡ Refuses refusal.Arity (decimal d.place)
MakesDefinitionOf name d reads NoTyping outcome = outcome ≡ Refuses refusal.Untypable (decimal d.place)
MakesDefinitionOf name d reads LargeReading outcome = outcome ≡ Refuses refusal.TooLarge []
MakesDefinitionOf name d reads (ReadsAs p) outcome = DefinesBy name d reads p (rand p) outcome

abbrev pub MakesDefinition : List ℕ → DefinitionText → ReadsValue → OutcomeValue → Type 0
MakesDefinition name d reads outcome =
    (reading : ReadingValue Nameless) × IsDefinitionReadAs (signature_of reads.cited) d reading × MakesDefinitionOf name d reads reading outcome

-- ---- new_basic_type_definition: unknown theorem; name taken; not closed; bad rule, where the theorem is no application

abbrev pub UnlessFree : Option (List ℕ) → (OutcomeValue → Type 0) → OutcomeValue → Type 0
UnlessFree None Made outcome = Made outcome
UnlessFree (Some x) Made outcome = outcome ≡ Refuses refusal.NotClosed x

-- the entries of a type definition by this theorem
abbrev pub MakesTypeBy : TypeDefinitionText → Theorem → OutcomeValue → Type 0
MakesTypeBy d member outcome =
    (entries : Entries) × IsNewTypeDefinition member.basis d.ty d.abs d.rep d.abs_rep d.rep_abs member entries × (outcome ≡ Makes entries)

-- the theorem says of something that it has a property, the first of these
abbrev pub MakesTypeOf : TypeDefinitionText → Theorem → Option (Nameless × Nameless) → OutcomeValue → Type 0
MakesTypeOf d member None outcome = outcome ≡ Refuses refusal.BadRule (codes "new_basic_type_definition")
MakesTypeOf d member (Some parts) outcome = UnlessFree (first_free parts.0) (MakesTypeBy d member) outcome

abbrev pub MakesTypeFrom : TypeDefinitionText → ReadsValue → Option Theorem → OutcomeValue → Type 0
MakesTypeFrom d reads None outcome = outcome ≡ Refuses refusal.UnknownTheorem d.theorem
MakesTypeFrom d reads (Some member) outcome = UnlessTaken (taken reads) (MakesTypeOf d member (dest_comb member.sequent.concl)) outcome

abbrev pub MakesTypeDefinition : TypeDefinitionText → ReadsValue → OutcomeValue → Type 0
MakesTypeDefinition d reads outcome = MakesTypeFrom d reads (cited_theorem reads.cited) outcome

-- ---- each command

abbrev pub IsMade : MakingText → ReadsValue → OutcomeValue → Type 0
IsMade (NewType name arity) reads outcome = MakesType name arity reads outcome
IsMade (NewConstant name quotation) reads outcome = MakesConstant name quotation reads outcome
IsMade (NewAxiom name quotation) reads outcome = MakesAxiom name quotation reads outcome
IsMade (NewDefinition name definition) reads outcome = MakesDefinition name definition reads outcome
IsMade (NewBasicTypeDefinition definition) reads outcome = MakesTypeDefinition definition reads outcome

-- in a proof, or made
abbrev pub IsMaking : Bool → MakingText → ReadsValue → OutcomeValue → Type 0
IsMaking true making reads outcome = outcome ≡ Refuses refusal.InProof []
IsMaking false making reads outcome = IsMade making reads outcome
