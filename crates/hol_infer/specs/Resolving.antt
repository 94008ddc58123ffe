-- What the identifiers of a type and of a term as they are written mean.
-- Source: HOL Light's parser.ml and preterm.ml. An identifier is the innermost bound variable of that name, else the constant that
-- stands, else a free variable. An identifier in a type is a type constructor that stands, else a type variable.
use Rattle.std.specs.Prelude.{ℕ, ◌+◌, List, [], ◌∷◌, cond, ◌==◌, ◌&&◌, Bool, true, false, bytes_eq, codes, Option, Some, None}
use Rattle.std.specs.Option.{option_map}
use Rattle.hol_types.specs.Tree.{TypeTree, TypeList, TyVar, TyApp, no_types, more_types}
use Rattle.hol_types.specs.Fun.{fun_type}
use Rattle.hol_notation_terms.specs.declared.operator.Operator.{Operator}
use Rattle.hol_notation_terms.specs.declared.operator.Operator.TheVariants.{Iff, Implies, Or, And, Equals, Not, ForAll, Exists, ExistsUnique, Choice}
use Rattle.hol_notation_terms.specs.Text.{TypeText, TypeTexts, Ident, Arrow, Apply, no_types as no_texts, more_types as more_texts, VariableText, RightSideText, DefinitionText, TermText, Named, Constant, Applied, Abstraction, Typed}
use Rattle.hol_typing.specs.Raw.{RawTree, RawBound, RawConstant, RawFree, RawApply, RawAbstraction, RawAnnotated}

-- ---- what stands: the first entry of a name counts

abbrev pub arity_of : List (List ℕ × ℕ) → List ℕ → Option ℕ
arity_of [] a = None
arity_of (p ∷ arities) a = cond (bytes_eq p.0 a) (Some p.1) (arity_of arities a)

abbrev pub generic_type_of : List (List ℕ × TypeTree) → List ℕ → Option TypeTree
generic_type_of [] a = None
generic_type_of (p ∷ constants) a = cond (bytes_eq p.0 a) (Some p.1) (generic_type_of constants a)

-- ---- types

abbrev pub begins_with_mark : List ℕ → Bool
begins_with_mark [] = false
begins_with_mark (x ∷ xs) = x == 63

-- The type variable of a name that is written. Types that are left open are `?0`, `?1` and so on: a name that begins with `?`, which no
-- identifier of the notation does, gets one `?` more, so that it is none of them.
abbrev pub written_variable : List ℕ → List ℕ
written_variable a = cond (begins_with_mark a) (63 ∷ a) a

abbrev pub ident_type : Option ℕ → List ℕ → TypeTree
ident_type None a = TyVar (written_variable a)
ident_type (Some n) a = TyApp a no_types

abbrev mutual
  pub type_of_text : List (List ℕ × ℕ) → TypeText → TypeTree
  type_of_text arities (Ident a) = ident_type (arity_of arities a) a
  type_of_text arities (Arrow s t) = fun_type (type_of_text arities s) (type_of_text arities t)
  type_of_text arities (Apply c ts) = TyApp c (types_of_texts arities ts)

  pub types_of_texts : List (List ℕ × ℕ) → TypeTexts → TypeList
  types_of_texts arities no_texts = no_types
  types_of_texts arities (more_texts t ts) = more_types (type_of_text arities t) (types_of_texts arities ts)

abbrev pub text_count : TypeTexts → ℕ
text_count no_texts = 0
text_count (more_texts t ts) = 1 + text_count ts

-- an identifier without arguments is a type variable or a constructor of none
abbrev pub stands_alone : Option ℕ → Bool
stands_alone None = true
stands_alone (Some n) = n == 0

-- arguments are given to a constructor of so many
abbrev pub takes : Option ℕ → ℕ → Bool
takes None count = false
takes (Some n) count = n == count

abbrev mutual
  pub has_arities : List (List ℕ × ℕ) → TypeText → Bool
  has_arities arities (Ident a) = stands_alone (arity_of arities a)
  has_arities arities (Arrow s t) = has_arities arities s && has_arities arities t
  has_arities arities (Apply c ts) = takes (arity_of arities c) (text_count ts) && have_arities arities ts

  pub have_arities : List (List ℕ × ℕ) → TypeTexts → Bool
  have_arities arities no_texts = true
  have_arities arities (more_texts t ts) = has_arities arities t && have_arities arities ts

abbrev pub option_has_arities : List (List ℕ × ℕ) → Option TypeText → Bool
option_has_arities arities None = true
option_has_arities arities (Some t) = has_arities arities t

-- in each annotation of the term
abbrev pub term_has_arities : List (List ℕ × ℕ) → TermText → Bool
term_has_arities arities (Named x) = true
term_has_arities arities (Constant c) = true
term_has_arities arities (Applied f a) = term_has_arities arities f && term_has_arities arities a
term_has_arities arities (Abstraction v b) = option_has_arities arities v.annotation && term_has_arities arities b
term_has_arities arities (Typed t ty) = term_has_arities arities t && has_arities arities ty

-- ---- terms

-- the place of the innermost variable of the name
abbrev pub name_index : List (List ℕ) → List ℕ → Option ℕ
name_index [] a = None
name_index (b ∷ names) a = cond (bytes_eq b a) (Some 0) (option_map (λ i. i + 1) (name_index names a))

abbrev pub resolved : Option ℕ → Option TypeTree → List ℕ → RawTree
resolved (Some i) generic x = RawBound i
resolved None (Some generic) x = RawConstant x generic
resolved None None x = RawFree x

-- under abstractions over variables of these names
abbrev pub identifier : List (List ℕ × TypeTree) → List (List ℕ) → List ℕ → RawTree
identifier constants names x = resolved (name_index names x) (generic_type_of constants x) x

abbrev pub bool_type : TypeTree
bool_type = TyApp (codes "bool") no_types

abbrev pub resolved_sign : Option TypeTree → Option ℕ → List ℕ → RawTree
resolved_sign (Some generic) i x = RawConstant x generic
resolved_sign None (Some i) x = RawBound i
resolved_sign None None x = RawFree x

-- a sign of the notation, which no identifier is: the constant of its name where that stands
abbrev pub sign : List (List ℕ × TypeTree) → List (List ℕ) → List ℕ → RawTree
sign constants names x = resolved_sign (generic_type_of constants x) (name_index names x) x

-- `<=>` is `=` at bool, and each other operator is the sign that it is written as
abbrev pub operator_raw : List (List ℕ × TypeTree) → List (List ℕ) → Operator → RawTree
operator_raw constants names Iff = RawConstant (codes "=") (fun_type bool_type (fun_type bool_type bool_type))
operator_raw constants names Implies = sign constants names (codes "==>")
operator_raw constants names Or = sign constants names (codes "\\/")
operator_raw constants names And = sign constants names (codes "/\\")
operator_raw constants names Equals = sign constants names (codes "=")
operator_raw constants names Not = sign constants names (codes "~")
operator_raw constants names ForAll = sign constants names (codes "!")
operator_raw constants names Exists = sign constants names (codes "?")
operator_raw constants names ExistsUnique = sign constants names (codes "?!")
operator_raw constants names Choice = sign constants names (codes "@")

abbrev pub raw_of : List (List ℕ × ℕ) → List (List ℕ × TypeTree) → List (List ℕ) → TermText → RawTree
raw_of arities constants names (Named x) = identifier constants names x
raw_of arities constants names (Constant c) = operator_raw constants names c
raw_of arities constants names (Applied f a) = RawApply (raw_of arities constants names f) (raw_of arities constants names a)
raw_of arities constants names (Abstraction v b) = RawAbstraction v.name (option_map (type_of_text arities) v.annotation) (raw_of arities constants (v.name ∷ names) b)
raw_of arities constants names (Typed t ty) = RawAnnotated (raw_of arities constants names t) (type_of_text arities ty)

-- ---- definitions

abbrev pub annotated : Option TypeTree → RawTree → RawTree
annotated None r = r
annotated (Some ty) r = RawAnnotated r ty

-- with `<=>` the right side is of type bool
abbrev pub at_bool : Bool → RawTree → RawTree
at_bool false r = r
at_bool true r = RawAnnotated r bool_type

abbrev pub right_raw : List (List ℕ × ℕ) → List (List ℕ × TypeTree) → List (List ℕ) → RightSideText → RawTree
right_raw arities constants names r = at_bool r.is_iff (annotated (option_map (type_of_text arities) r.annotation) (raw_of arities constants names r.term))

-- `\v1 .. vn. r`, the first variable outermost
abbrev pub value_raw : List (List ℕ × ℕ) → List (List ℕ × TypeTree) → List (List ℕ) → List VariableText → RightSideText → RawTree
value_raw arities constants names [] r = right_raw arities constants names r
value_raw arities constants names (v ∷ vs) r = RawAbstraction v.name (option_map (type_of_text arities) v.annotation) (value_raw arities constants (v.name ∷ names) vs r)

abbrev pub right_has_arities : List (List ℕ × ℕ) → RightSideText → Bool
right_has_arities arities r = term_has_arities arities r.term && option_has_arities arities r.annotation

abbrev pub value_has_arities : List (List ℕ × ℕ) → List VariableText → RightSideText → Bool
value_has_arities arities [] r = right_has_arities arities r
value_has_arities arities (v ∷ vs) r = option_has_arities arities v.annotation && value_has_arities arities vs r

-- in each type that is written in the definition
abbrev pub definition_has_arities : List (List ℕ × ℕ) → DefinitionText → Bool
definition_has_arities arities d = value_has_arities arities d.parameters d.right

-- what stands but for the name
abbrev pub without : List ℕ → List (List ℕ × TypeTree) → List (List ℕ × TypeTree)
without c [] = []
without c (p ∷ constants) = cond (bytes_eq p.0 c) (without c constants) (p ∷ without c constants)

-- `c = \v1 .. vn. r`, in which c is a free variable whatever stands
abbrev pub definition_raw : List (List ℕ × ℕ) → List (List ℕ × TypeTree) → DefinitionText → RawTree
definition_raw arities constants d =
    RawApply (RawApply (operator_raw constants [] Equals) (RawFree d.name)) (value_raw arities (without d.name constants) [] d.parameters d.right)
