-- Definitions as they are written: what they read as, and what is refused of them.
-- Source: HOL Light's fusion.ml, new_basic_definition, with its side conditions on free variables and type variables.
use Rattle.std.specs.Prelude.{ℕ, List, [], ◌∷◌, not, map, Option, Some, None}
use Rattle.std.specs.List.{find}
use Rattle.std.specs.Option.{option_and_then}
use Rattle.hol_types.specs.Tree.{TypeTree}
use Rattle.hol_types.specs.Names.{tyvars, insert_names, is_among}
use Rattle.hol_terms.specs.Nameless.{Nameless, free_occurrences, nameless_type}
use Rattle.hol_terms.specs.Scoped.{add_all}
use Rattle.hol_subst.specs.TermTyvars.{term_tyvars}
use Rattle.hol_notation_terms.specs.Text.{DefinitionText}
use Rattle.hol_infer.specs.Resolving.{definition_has_arities, definition_raw}
use Rattle.hol_resolve.specs.Signature.{SignatureValue}
use Rattle.hol_resolve.specs.Reading.{ReadingValue, IsReadAs}

-- `c v1 .. vn = r` reads as the equation `c = \v1 .. vn. r`, in which c is a free variable
abbrev pub IsDefinitionReadAs : SignatureValue → DefinitionText → ReadingValue Nameless → Type 0
IsDefinitionReadAs over d reading = IsReadAs (definition_has_arities over.types d) (definition_raw over.types over.constants d) reading

-- ---- what is refused: names by bytes

abbrev pub first_name : List (List ℕ) → Option (List ℕ)
first_name [] = None
first_name (a ∷ names) = Some a

-- the first name of a variable that is free
abbrev pub first_free : Nameless → Option (List ℕ)
first_free r = first_name (insert_names [] (map (λ v. v.0) (add_all [] (free_occurrences r))))

-- the first type variable of a term that is none of its type
abbrev pub unreflected_at : Nameless → TypeTree → Option (List ℕ)
unreflected_at r a = find (λ n. not (is_among (tyvars a) n)) (term_tyvars r)

abbrev pub first_unreflected : Nameless → Option (List ℕ)
first_unreflected r = option_and_then (unreflected_at r) (nameless_type [] r)
