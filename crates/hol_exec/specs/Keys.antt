-- The keys that a command's outcome may depend on, in text order: those that it cites, and those that it makes.
-- Source: this project.
use Rattle.std.specs.Prelude.{List, [], ◌∷◌, ◌++◌, Option, Some, None}
use Rattle.hol_notation_terms.specs.Text.{VariableText, DefinitionText, TypeText, TypeTexts, Ident, Arrow, Apply as Applying, no_types, more_types, TermText, Named, Constant, Applied, Abstraction, Typed}
use Rattle.hol_notation_tactics.specs.Parts.{parts_of}
use Rattle.hol_notation_tactics.specs.declared.parts.Part.{Part}
use Rattle.hol_notation_tactics.specs.declared.parts.Part.TheVariants as part
use Rattle.hol_theory.specs.Key.{KeyValue, type_key, constant_key, theorem_key, tac_key}
use Rattle.hol_notation_commands.specs.Text.{MakingText, NewType, NewConstant, NewAxiom, NewDefinition, NewBasicTypeDefinition, LocalText, Goal, Apply, Qed, DefineTac, Make}

-- `type:` of each identifier in a type
abbrev mutual
  pub keys_of_type : TypeText → List KeyValue
  keys_of_type (Ident a) = type_key a ∷ []
  keys_of_type (Arrow s t) = keys_of_type s ++ keys_of_type t
  keys_of_type (Applying c ts) = keys_of_types ts ++ type_key c ∷ []

  pub keys_of_types : TypeTexts → List KeyValue
  keys_of_types no_types = []
  keys_of_types (more_types t ts) = keys_of_type t ++ keys_of_types ts

abbrev pub keys_of_annotation : Option TypeText → List KeyValue
keys_of_annotation None = []
keys_of_annotation (Some ty) = keys_of_type ty

-- `const:` of each identifier in a term, bound ones too, and the keys of the types that are written in it; the operators are the prelude's
abbrev pub keys_of_term : TermText → List KeyValue
keys_of_term (Named x) = constant_key x ∷ []
keys_of_term (Constant c) = []
keys_of_term (Applied f a) = keys_of_term f ++ keys_of_term a
keys_of_term (Abstraction v b) = constant_key v.name ∷ keys_of_annotation v.annotation ++ keys_of_term b
keys_of_term (Typed t ty) = keys_of_term t ++ keys_of_type ty

-- the keys of the terms and types that are written in an expression, `thm:` of each name that is cited, and `tac:` of each name that is called, registered ones too
abbrev pub keys_in : List Part → List KeyValue
keys_in [] = []
keys_in (part.Term t ∷ parts) = keys_of_term t.term ++ keys_in parts
keys_in (part.Type a ∷ parts) = keys_of_type a.ty ++ keys_in parts
keys_in (part.Theorem name ∷ parts) = theorem_key name ∷ keys_in parts
keys_in (part.Call role call ∷ parts) = tac_key call.name ∷ keys_in parts
keys_in (part.Formula p ∷ parts) = keys_of_term p.term ++ keys_in parts

abbrev pub keys_of_parameters : List VariableText → List KeyValue
keys_of_parameters [] = []
keys_of_parameters (v ∷ parameters) = constant_key v.name ∷ keys_of_annotation v.annotation ++ keys_of_parameters parameters

-- the constant that a definition defines is a key that it makes
abbrev pub keys_of_definition : DefinitionText → List KeyValue
keys_of_definition d = keys_of_parameters d.parameters ++ keys_of_annotation d.right.annotation ++ keys_of_term d.right.term

abbrev pub cited_by_making : MakingText → List KeyValue
cited_by_making (NewType name arity) = []
cited_by_making (NewConstant name quotation) = keys_of_type quotation.ty
cited_by_making (NewAxiom name quotation) = keys_of_term quotation.term
cited_by_making (NewDefinition name definition) = keys_of_definition definition
cited_by_making (NewBasicTypeDefinition definition) = theorem_key definition.theorem ∷ []

abbrev pub cited_keys : LocalText → List KeyValue
cited_keys (Goal name quotation) = keys_of_term quotation.term
cited_keys (Apply tactic) = keys_in (parts_of tactic)
cited_keys Qed = []
cited_keys (DefineTac name tactic) = keys_in (parts_of tactic)
cited_keys (Make making) = cited_by_making making

abbrev pub made_by_making : MakingText → List KeyValue
made_by_making (NewType name arity) = type_key name ∷ []
made_by_making (NewConstant name quotation) = constant_key name ∷ []
made_by_making (NewAxiom name quotation) = theorem_key name ∷ []
made_by_making (NewDefinition name definition) = theorem_key name ∷ constant_key definition.name ∷ []
made_by_making (NewBasicTypeDefinition d) = type_key d.ty ∷ constant_key d.abs ∷ constant_key d.rep ∷ theorem_key d.abs_rep ∷ theorem_key d.rep_abs ∷ []

-- `qed` makes the key that its `g` tested
abbrev pub made_keys : LocalText → List KeyValue
made_keys (Goal name quotation) = theorem_key name ∷ []
made_keys (Apply tactic) = []
made_keys Qed = []
made_keys (DefineTac name tactic) = tac_key name ∷ []
made_keys (Make making) = made_by_making making

-- both
pub record CommandKeysValue : Type 0 where
  pub cited : List KeyValue
  pub made : List KeyValue

abbrev pub command_keys : LocalText → CommandKeysValue
command_keys command = record { cited = cited_keys command; made = made_keys command }
