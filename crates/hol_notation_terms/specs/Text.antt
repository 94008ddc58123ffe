-- Types and terms as they are written, before names are resolved. Names are lists of bytes.
-- Source: this project, after HOL Light's preterms, where an infix is its constant applied to both sides, and a binder its
-- constant applied to an abstraction.
use Rattle.std.specs.Prelude.{Bool, ℕ, ◌+◌, List, [], ◌∷◌, Option}
use Rattle.hol_notation_terms.specs.declared.operator.Operator.{Operator}

mutual
  -- an identifier, the type of functions between two, or a constructor with arguments
  pub data TypeText : Type 0 where
    Ident : List ℕ → TypeText
    Arrow : TypeText → TypeText → TypeText
    Apply : List ℕ → TypeTexts → TypeText

  pub data TypeTexts : Type 0 where
    no_types : TypeTexts
    more_types : TypeText → TypeTexts → TypeTexts

-- types from a list
abbrev pub type_texts : List TypeText → TypeTexts
type_texts [] = no_types
type_texts (t ∷ ts) = more_types t (type_texts ts)

-- a variable where it is bound, with the type that is written for it
pub record VariableText : Type 0 where
  pub name : List ℕ
  pub annotation : Option TypeText

pub data TermText : Type 0 where
  Named : List ℕ → TermText
  Constant : Operator → TermText
  Applied : TermText → TermText → TermText
  Abstraction : VariableText → TermText → TermText
  Typed : TermText → TypeText → TermText

-- a quotation: the place of its opening backquote, in bytes from 0, and its term or type
pub record QuotationText : Type 0 where
  pub place : ℕ
  pub term : TermText

pub record TypeQuotationText : Type 0 where
  pub place : ℕ
  pub ty : TypeText

-- what a constant is defined by: the type that is written for it, whether `<=>` stands before it and not `=`, and the term
pub record RightSideText : Type 0 where
  pub annotation : Option TypeText
  pub is_iff : Bool
  pub term : TermText

-- a definition: the place of its opening backquote, the constant's name, the parameters, and the right side
pub record DefinitionText : Type 0 where
  pub place : ℕ
  pub name : List ℕ
  pub parameters : List VariableText
  pub right : RightSideText

-- the number of nodes
abbrev mutual
  pub type_nodes : TypeText → ℕ
  type_nodes (Ident a) = 1
  type_nodes (Arrow s t) = 1 + type_nodes s + type_nodes t
  type_nodes (Apply c ts) = 1 + types_nodes ts

  pub types_nodes : TypeTexts → ℕ
  types_nodes no_types = 0
  types_nodes (more_types t ts) = type_nodes t + types_nodes ts

abbrev pub term_nodes : TermText → ℕ
term_nodes (Named x) = 1
term_nodes (Constant c) = 1
term_nodes (Applied f a) = 1 + term_nodes f + term_nodes a
term_nodes (Abstraction x b) = 1 + term_nodes b
term_nodes (Typed t ty) = 1 + term_nodes t
