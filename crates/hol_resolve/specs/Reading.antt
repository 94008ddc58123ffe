-- What a term or a type as it is written reads as: its principal typing, or the first fault that it has.
-- Sources: HOL Light's parse_term, parse_type and preterm.ml; the order of the faults is this project's.
use Rattle.std.specs.Prelude.{◌≡◌, ◌≤◌, [], Bool, true, false, cond, nat_lt}
use Rattle.hol_types.specs.Tree.{TypeTree, type_size}
use Rattle.hol_terms.specs.Nameless.{Nameless}
use Rattle.hol_terms.specs.Size.{term_size}
use Rattle.hol_notation_terms.specs.Text.{TypeText, TermText}
use Rattle.hol_typing.specs.Raw.{RawTree}
use Rattle.hol_infer.specs.Resolving.{raw_of, type_of_text, has_arities, term_has_arities}
use Rattle.hol_typing.specs.Typing.{HasNoTyping}
use Rattle.hol_infer.specs.Reading.{IsReading, HasLargeReading}
use Rattle.hol_resolve.specs.Signature.{SignatureValue}

-- what is read, or why nothing is
pub data ReadingValue (X : Type 0) : Type 0 where
  WrongArity : ReadingValue X
  NoTyping : ReadingValue X
  LargeReading : ReadingValue X
  ReadsAs : X → ReadingValue X

-- What a raw term reads as, where each type constructor in it has as many arguments as its arity, or where not. A reading is the typing of
-- which every other is an instance, of at most 20,000 nodes; that it is well typed over what stands is what the law `readings_stand` of
-- hol_infer says.
abbrev pub IsReadAs : Bool → RawTree → ReadingValue Nameless → Type 0
IsReadAs arities raw WrongArity = arities ≡ false
IsReadAs arities raw NoTyping = (arities ≡ true) × HasNoTyping raw
IsReadAs arities raw LargeReading = (arities ≡ true) × HasLargeReading raw
IsReadAs arities raw (ReadsAs p) = (arities ≡ true) × IsReading raw p × (term_size [] p ≤ 20000)

-- what a term as it is written reads as, over what stands
abbrev pub IsTermReadAs : SignatureValue → TermText → ReadingValue Nameless → Type 0
IsTermReadAs over t reading = IsReadAs (term_has_arities over.types t) (raw_of over.types over.constants [] t) reading

-- what a type as it is written reads as: it has no types to be found
abbrev pub small_type : TypeTree → ReadingValue TypeTree
small_type a = cond (nat_lt 20000 (type_size a)) LargeReading (ReadsAs a)

abbrev pub type_reading : SignatureValue → TypeText → ReadingValue TypeTree
type_reading over t = cond (has_arities over.types t) (small_type (type_of_text over.types t)) WrongArity
