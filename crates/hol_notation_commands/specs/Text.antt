-- Commands as they are written.
-- Source: this project; `g`, `e`, `b`, `r`, `new_type`, `new_constant`, `new_axiom`, `new_definition` and
-- `new_basic_type_definition` are the names of HOL Light's functions (HOL Light Reference Manual); `deftac` names an
-- expression, as a `let` of OCaml does in HOL Light.
use Rattle.std.specs.Prelude.{ℕ, List}
use Rattle.hol_notation_terms.specs.Text.{QuotationText, TypeQuotationText, DefinitionText}
use Rattle.hol_notation_tactics.specs.Text.{TacText}

-- what `new_basic_type_definition` is given: the type, its two functions, the two theorems to make, and the theorem that
-- says of something that it holds
pub record TypeDefinitionText : Type 0 where
  pub ty : List ℕ
  pub abs : List ℕ
  pub rep : List ℕ
  pub abs_rep : List ℕ
  pub rep_abs : List ℕ
  pub theorem : List ℕ

-- the commands that make types, constants, axioms and definitions
pub data MakingText : Type 0 where
  NewType : List ℕ → ℕ → MakingText
  NewConstant : List ℕ → TypeQuotationText → MakingText
  NewAxiom : List ℕ → QuotationText → MakingText
  NewDefinition : List ℕ → DefinitionText → MakingText
  NewBasicTypeDefinition : TypeDefinitionText → MakingText

-- the commands whose outcomes are functions of what they read
pub data LocalText : Type 0 where
  Goal : List ℕ → QuotationText → LocalText
  Apply : TacText → LocalText
  Qed : LocalText
  DefineTac : List ℕ → TacText → LocalText
  Make : MakingText → LocalText

-- the commands that are answered from the state: those on the open proof's history, and imports
pub data DirectText : Type 0 where
  Back : DirectText
  Rotate : ℕ → DirectText
  Oops : DirectText
  Import : List ℕ → DirectText

pub data CommandText : Type 0 where
  Local : LocalText → CommandText
  Direct : DirectText → CommandText
