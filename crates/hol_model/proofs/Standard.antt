-- The interpretation of the prelude: ind has the individuals, another type constructor two values, equality and choice have theirs, the connectives have tables, and the other constants are as they
-- are defined.
use Rattle.std.specs.Prelude.{codes, cond, bytes_eq, ℕ, List, [], ◌∷◌, Bool, not, ◌&&◌, ◌||◌}
use Rattle.hol_types.specs.Tree.{TypeTree}
use Rattle.hol_terms.specs.Nameless.{nameless}
use Rattle.hol_formulas.specs.Equation.{bool_type, equality_type}
use Rattle.hol_formulas.specs.Formula.{connective_type, negation_type}
use Rattle.hol_formulas.specs.Constants.{var_a, binder_type, choice_type, function_property_type}
use Rattle.hol_formulas.specs.Prelude.{everywhere, somewhere, once, injective, surjective}
use Rattle.hol_model.proofs.Interpretations.{Interpretation, truth_value, equality_value, choice_value, with_constant, with_defined}
use Rattle.hol_model.proofs.Universes.{Universe}

module _ (U : Universe) where
  open U use {Value}
  open U.laws use {individuals, same, first, off, on, booleans, table}

  -- ---- values of connectives

  -- the table of a connective
  abbrev pub connective : (Bool → Bool → Bool) → Value
  connective f = table (λ x. table (λ y. truth_value U (f (same x on) (same y on))) booleans) booleans

  abbrev pub and_value : Value
  and_value = connective (λ p q. p && q)

  abbrev pub or_value : Value
  or_value = connective (λ p q. p || q)

  abbrev pub imp_value : Value
  imp_value = connective (λ p q. not p || q)

  abbrev pub not_value : Value
  not_value = table (λ x. truth_value U (not (same x on))) booleans

  -- ---- constants, each over those before it

  abbrev pub of_nothing : Interpretation U
  of_nothing = record { constructors = λ c vs. cond (bytes_eq c (codes "ind")) individuals booleans; generics = λ c. bool_type; constants = λ c d. off }

  abbrev pub of_equality : Interpretation U
  of_equality = with_constant U (codes "=") (equality_type var_a) (λ d. equality_value U (d (codes "A"))) of_nothing

  abbrev pub of_choice : Interpretation U
  of_choice = with_constant U (codes "@") choice_type (λ d. choice_value U (d (codes "A"))) of_equality

  abbrev pub of_truth : Interpretation U
  of_truth = with_constant U (codes "T") bool_type (λ d. on) of_choice

  abbrev pub of_falsity : Interpretation U
  of_falsity = with_constant U (codes "F") bool_type (λ d. off) of_truth

  abbrev pub of_and : Interpretation U
  of_and = with_constant U (codes "/\\") connective_type (λ d. and_value) of_falsity

  abbrev pub of_or : Interpretation U
  of_or = with_constant U (codes "\\/") connective_type (λ d. or_value) of_and

  abbrev pub of_imp : Interpretation U
  of_imp = with_constant U (codes "==>") connective_type (λ d. imp_value) of_or

  abbrev pub of_not : Interpretation U
  of_not = with_constant U (codes "~") negation_type (λ d. not_value) of_imp

  abbrev pub of_forall : Interpretation U
  of_forall = with_defined U (codes "!") binder_type (nameless [] everywhere) of_not

  abbrev pub of_exists : Interpretation U
  of_exists = with_defined U (codes "?") binder_type (nameless [] somewhere) of_forall

  abbrev pub of_unique : Interpretation U
  of_unique = with_defined U (codes "?!") binder_type (nameless [] once) of_exists

  abbrev pub of_one_one : Interpretation U
  of_one_one = with_defined U (codes "ONE_ONE") function_property_type (nameless [] injective) of_unique

  -- of all of the prelude
  abbrev pub standard : Interpretation U
  standard = with_defined U (codes "ONTO") function_property_type (nameless [] surjective) of_one_one

  -- ---- their generic types, the newest first

  abbrev pub equality_types : List (List ℕ × TypeTree)
  equality_types = (codes "=", equality_type var_a) ∷ []

  abbrev pub choice_types : List (List ℕ × TypeTree)
  choice_types = (codes "@", choice_type) ∷ equality_types

  abbrev pub truth_types : List (List ℕ × TypeTree)
  truth_types = (codes "T", bool_type) ∷ choice_types

  abbrev pub falsity_types : List (List ℕ × TypeTree)
  falsity_types = (codes "F", bool_type) ∷ truth_types

  abbrev pub and_types : List (List ℕ × TypeTree)
  and_types = (codes "/\\", connective_type) ∷ falsity_types

  abbrev pub or_types : List (List ℕ × TypeTree)
  or_types = (codes "\\/", connective_type) ∷ and_types

  abbrev pub imp_types : List (List ℕ × TypeTree)
  imp_types = (codes "==>", connective_type) ∷ or_types

  abbrev pub not_types : List (List ℕ × TypeTree)
  not_types = (codes "~", negation_type) ∷ imp_types

  abbrev pub forall_types : List (List ℕ × TypeTree)
  forall_types = (codes "!", binder_type) ∷ not_types

  abbrev pub exists_types : List (List ℕ × TypeTree)
  exists_types = (codes "?", binder_type) ∷ forall_types

  abbrev pub unique_types : List (List ℕ × TypeTree)
  unique_types = (codes "?!", binder_type) ∷ exists_types

  abbrev pub one_one_types : List (List ℕ × TypeTree)
  one_one_types = (codes "ONE_ONE", function_property_type) ∷ unique_types

  abbrev pub standard_types : List (List ℕ × TypeTree)
  standard_types = (codes "ONTO", function_property_type) ∷ one_one_types
