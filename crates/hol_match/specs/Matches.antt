-- What a match of a pattern with a term is: an instance of the pattern that is the term up to bound names, and leaves what is fixed.
-- Source: term_match of HOL Light's drule.ml; most general matches as in term rewriting (F. Baader, T. Nipkow, Term Rewriting and All That).
use Rattle.std.specs.Prelude.{◌≡◌, ℕ, List, [], ◌∷◌, Some, None}
use Rattle.hol_types.specs.Tree.{TypeTree}
use Rattle.hol_types.specs.Subst.{type_for}
use Rattle.hol_terms.specs.Nameless.{Nameless, nameless_type}
use Rattle.hol_terms.specs.Alpha.{strip}
use Rattle.hol_subst.specs.Substitution.{term_for}
use Rattle.hol_match.specs.Instance.{InstanceValue, both, instantiated}
use Rattle.hol_match.specs.Fixed.{stays_of}
use Rattle.hol_match.specs.Matching.{matched}

-- each variable is given a term of its type
abbrev pub IsWellTyped : InstanceValue → Type 0
IsWellTyped a = (v : List ℕ × TypeTree) → nameless_type [] (term_for a.terms v) ≡ Some v.1

-- the instance gives each of these type variables the type beside it
abbrev pub GivesTypes : InstanceValue → List (TypeTree × List ℕ) → Type 0
GivesTypes a [] = Unit {0}
GivesTypes a (p ∷ pairs) = (type_for a.types p.1 ≡ p.0) × GivesTypes a pairs

-- and each of these variables the term beside it, up to bound names
abbrev pub GivesTerms : InstanceValue → List (Nameless × (List ℕ × TypeTree)) → Type 0
GivesTerms a [] = Unit {0}
GivesTerms a (p ∷ pairs) = (strip (term_for a.terms p.1) ≡ strip p.0) × GivesTerms a pairs

-- the first instance says what the second says
abbrev pub Says : InstanceValue → InstanceValue → Type 0
Says a b = GivesTypes a b.types × GivesTerms a b.terms

-- the instance is well typed, leaves what is to stay, and makes the pattern the term up to bound names
pub record IsMatch (stays : InstanceValue) (pattern term : Nameless) (a : InstanceValue) : Type 0 where
  pub typed : IsWellTyped a
  pub left : Says a stays
  pub gives : strip (instantiated a 0 pattern) ≡ strip term

-- the instance is a match, and says only what every match says
pub record IsMostGeneral (stays : InstanceValue) (pattern term : Nameless) (a : InstanceValue) : Type 0 where
  pub fits : IsMatch stays pattern term a
  pub least : (b : InstanceValue) → IsMatch stays pattern term b → Says b a

abbrev pub HasNoMatch : InstanceValue → Nameless → Nameless → Type 0
HasNoMatch stays pattern term = (b : InstanceValue) → IsMatch stays pattern term b → ⊥

-- what matching finds beside the variables of some terms, which stay, is the most general match
abbrev pub FoundIsMostGeneral : Type 0
FoundIsMostGeneral = (terms : List Nameless) (pattern term : Nameless) (a : InstanceValue) → matched 0 pattern (stays_of terms) term ≡ Some (both (stays_of terms) a) → IsMostGeneral (stays_of terms) pattern term a

-- and where it finds nothing there is no match
abbrev pub NoneIsMissing : Type 0
NoneIsMissing = (terms : List Nameless) (pattern term : Nameless) → matched 0 pattern (stays_of terms) term ≡ None → HasNoMatch (stays_of terms) pattern term
