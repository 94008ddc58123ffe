-- What is built of what is written: of a token, and of each rule.
use Rattle.std.specs.Prelude.{◌≡◌, ℕ, zero, suc, List, [], ◌∷◌, Option, None, false}
use Rattle.hol_notation_tokens.specs.declared.token.Kind.TheVariants.{Ident as IdentKind}
use Rattle.hol_notation_tokens.specs.Lexeme.{Lexeme}
use Rattle.hol_notation_grammar.specs.declared.grammar.Rule.{Rule}
use Rattle.hol_notation_grammar.specs.declared.grammar.Rule.TheVariants as rule
use Rattle.hol_notation_grammar.specs.declared.grammar.Symbol.{Symbol}
use Rattle.hol_notation_grammar.specs.declared.grammar.Symbol.TheVariants.{Token, Part}
use Rattle.hol_notation_terms.specs.declared.operator.Operator.{Operator}
use Rattle.hol_notation_terms.specs.Text.{TypeText, Ident, VariableText, TermText, Named, QuotationText, TypeQuotationText, RightSideText, DefinitionText}
use Rattle.hol_notation_tactics.specs.Text.{TypePairText, ThmText, Cited, ArgumentText, Theorem, CallText, TacText, Call}
use Rattle.hol_notation_commands.specs.Text.{CommandText, Direct, Back}

-- an infix and the term on its right, behind a term
pub record SideText : Type 0 where
  pub operator : Operator
  pub term : TermText

-- THEN and a tactic expression, or THENL and some, behind a tactic expression
pub data ThenText : Type 0 where
  one : TacText → ThenText
  each : List TacText → ThenText

pub data PieceText : Type 0 where
  a_word : Lexeme → PieceText
  a_type : TypeText → PieceText
  maybe_type : Option TypeText → PieceText
  -- constructors behind a type
  type_names : List (List ℕ) → PieceText
  -- types behind the first of a list, and the constructors behind them
  type_list : List TypeText → List (List ℕ) → PieceText
  a_term : TermText → PieceText
  maybe_term : Option TermText → PieceText
  some_terms : List TermText → PieceText
  -- what a binder binds, and its body
  bound : List VariableText → TermText → PieceText
  -- the type that is written for the variable before it, what else is bound, and the body
  after_name : Option TypeText → List VariableText → TermText → PieceText
  -- what stands behind `(~` and behind a parenthesis and a binder, if anything does, and then infixes
  after_not : Option TermText → List SideText → PieceText
  after_binder : Option (List VariableText × TermText) → List SideText → PieceText
  a_quotation : QuotationText → PieceText
  a_type_quotation : TypeQuotationText → PieceText
  a_right_side : RightSideText → PieceText
  some_parameters : List VariableText → RightSideText → PieceText
  a_definition : DefinitionText → PieceText
  a_theorem : ThmText → PieceText
  some_theorems : List ThmText → PieceText
  a_pair : TypePairText → PieceText
  some_pairs : List TypePairText → PieceText
  an_argument : ArgumentText → PieceText
  some_arguments : List ArgumentText → PieceText
  a_call : CallText → PieceText
  a_tactic : TacText → PieceText
  maybe_tactic : Option TacText → PieceText
  some_tactics : List TacText → PieceText
  some_steps : List ThenText → PieceText
  a_command : CommandText → PieceText

-- the forms of pieces
pub data Form : Type 0 where
  of_word of_type of_maybe_type of_type_names of_type_list of_term of_maybe_term of_terms of_bound of_after_name of_after_not of_after_binder : Form
  of_quotation of_type_quotation of_right_side of_parameters of_definition of_theorem of_theorems of_pair of_pairs of_argument of_arguments : Form
  of_call of_tactic of_maybe_tactic of_tactics of_steps of_command : Form

abbrev pub form : PieceText → Form
form (a_word x) = of_word
form (a_type t) = of_type
form (maybe_type t) = of_maybe_type
form (type_names ns) = of_type_names
form (type_list ts ns) = of_type_list
form (a_term t) = of_term
form (maybe_term t) = of_maybe_term
form (some_terms ts) = of_terms
form (bound vs t) = of_bound
form (after_name ty vs t) = of_after_name
form (after_not t ss) = of_after_not
form (after_binder b ss) = of_after_binder
form (a_quotation q) = of_quotation
form (a_type_quotation q) = of_type_quotation
form (a_right_side r) = of_right_side
form (some_parameters vs r) = of_parameters
form (a_definition d) = of_definition
form (a_theorem th) = of_theorem
form (some_theorems ths) = of_theorems
form (a_pair p) = of_pair
form (some_pairs ps) = of_pairs
form (an_argument a) = of_argument
form (some_arguments xs) = of_arguments
form (a_call c) = of_call
form (a_tactic t) = of_tactic
form (maybe_tactic t) = of_maybe_tactic
form (some_tactics ts) = of_tactics
form (some_steps ss) = of_steps
form (a_command c) = of_command

-- the form of what is built of each rule
abbrev pub form_of : Rule → Form
form_of rule.Command = of_command
form_of rule.Tactic = of_tactic
form_of rule.Alternative = of_maybe_tactic
form_of rule.Sequence = of_tactic
form_of rule.MoreSteps = of_steps
form_of rule.Application = of_tactic
form_of rule.TacticAtom = of_tactic
form_of rule.TacticList = of_tactics
form_of rule.Tactics = of_tactics
form_of rule.MoreTactics = of_tactics
form_of rule.TheoremTactic = of_call
form_of rule.TacticArguments = of_arguments
form_of rule.TacticArgument = of_argument
form_of rule.Group = of_argument
form_of rule.Theorems = of_theorems
form_of rule.MoreTheorems = of_theorems
form_of rule.Theorem = of_theorem
form_of rule.SimpleTheorem = of_theorem
form_of rule.TypePair = of_pair
form_of rule.MorePairs = of_pairs
form_of rule.TypeQuotation = of_type_quotation
form_of rule.Definition = of_definition
form_of rule.Parameters = of_parameters
form_of rule.RightSide = of_right_side
form_of rule.Equation = of_right_side
form_of rule.Quotation = of_quotation
form_of rule.Type = of_type
form_of rule.ArrowTail = of_maybe_type
form_of rule.AppliedType = of_type
form_of rule.TypeList = of_type_list
form_of rule.TypeRest = of_type_list
form_of rule.Postfix = of_type_names
form_of rule.Term = of_term
form_of rule.IffTail = of_maybe_term
form_of rule.Implication = of_term
form_of rule.ImpliesTail = of_maybe_term
form_of rule.Disjunction = of_term
form_of rule.OrTail = of_maybe_term
form_of rule.Conjunction = of_term
form_of rule.AndTail = of_maybe_term
form_of rule.Equality = of_term
form_of rule.EqualsTail = of_maybe_term
form_of rule.Unary = of_term
form_of rule.Typed = of_term
form_of rule.Arguments = of_terms
form_of rule.Annotation = of_maybe_type
form_of rule.Atom = of_term
form_of rule.Inside = of_term
form_of rule.AfterNot = of_after_not
form_of rule.AfterBinder = of_after_binder
form_of rule.Bound = of_bound
form_of rule.AfterName = of_after_name
form_of rule.AfterBound = of_bound

-- the first of these are of the forms of these parts
abbrev pub AreOf : List Symbol → List PieceText → Type 0
AreOf [] vs = Unit {0}
AreOf (s ∷ ss) [] = ⊥
AreOf (Token c ∷ ss) (v ∷ vs) = (form v ≡ of_word) × AreOf ss vs
AreOf (Part n ∷ ss) (v ∷ vs) = (form v ≡ form_of n) × AreOf ss vs

-- the first five are infixes, if there are such
abbrev pub AreFive : List PieceText → Type 0
AreFive vs = AreOf (Part rule.EqualsTail ∷ Part rule.AndTail ∷ Part rule.OrTail ∷ Part rule.ImpliesTail ∷ Part rule.IffTail ∷ []) vs

-- the first is of a form
abbrev pub IsFirst : Form → List PieceText → Type 0
IsFirst f [] = ⊥
IsFirst f (v ∷ vs) = form v ≡ f

abbrev pub no_word : Lexeme
no_word = record { kind = IdentKind; text = []; place = 0 }

-- what stands at a place of a list of pieces, from 0 on
abbrev pub at : ℕ → List PieceText → PieceText
at i [] = a_word no_word
at zero (v ∷ vs) = v
at (suc i) (v ∷ vs) = at i vs

-- What a piece holds: something, where it is of another form, which it never is.
abbrev pub the_word : PieceText → Lexeme
the_word (a_word x) = x
the_word _ = no_word

abbrev pub the_text : PieceText → List ℕ
the_text v = (the_word v).text

abbrev pub the_type : PieceText → TypeText
the_type (a_type t) = t
the_type _ = Ident []

abbrev pub type_if_any : PieceText → Option TypeText
type_if_any (maybe_type t) = t
type_if_any _ = None

abbrev pub names_in : PieceText → List (List ℕ)
names_in (type_names ns) = ns
names_in (type_list ts ns) = ns
names_in _ = []

abbrev pub types_in : PieceText → List TypeText
types_in (type_list ts ns) = ts
types_in _ = []

abbrev pub the_term : PieceText → TermText
the_term (a_term t) = t
the_term (bound vs t) = t
the_term (after_name ty vs t) = t
the_term _ = Named []

abbrev pub term_if_any : PieceText → Option TermText
term_if_any (maybe_term t) = t
term_if_any (after_not t ss) = t
term_if_any _ = None

abbrev pub terms_in : PieceText → List TermText
terms_in (some_terms ts) = ts
terms_in _ = []

abbrev pub variables_in : PieceText → List VariableText
variables_in (bound vs t) = vs
variables_in (after_name ty vs t) = vs
variables_in (some_parameters vs r) = vs
variables_in _ = []

abbrev pub annotation_in : PieceText → Option TypeText
annotation_in (after_name ty vs t) = ty
annotation_in _ = None

abbrev pub sides_in : PieceText → List SideText
sides_in (after_not t ss) = ss
sides_in (after_binder b ss) = ss
sides_in _ = []

abbrev pub bound_if_any : PieceText → Option (List VariableText × TermText)
bound_if_any (after_binder b ss) = b
bound_if_any _ = None

abbrev no_quotation : QuotationText
no_quotation = record { place = 0; term = Named [] }

abbrev no_type_quotation : TypeQuotationText
no_type_quotation = record { place = 0; ty = Ident [] }

abbrev no_right_side : RightSideText
no_right_side = record { annotation = None; is_iff = false; term = Named [] }

abbrev no_call : CallText
no_call = record { name = []; arguments = [] }

abbrev pub the_quotation : PieceText → QuotationText
the_quotation (a_quotation q) = q
the_quotation _ = no_quotation

abbrev pub the_type_quotation : PieceText → TypeQuotationText
the_type_quotation (a_type_quotation q) = q
the_type_quotation _ = no_type_quotation

abbrev pub the_right_side : PieceText → RightSideText
the_right_side (a_right_side r) = r
the_right_side (some_parameters vs r) = r
the_right_side _ = no_right_side

abbrev pub the_definition : PieceText → DefinitionText
the_definition (a_definition d) = d
the_definition _ = record { place = 0; name = []; parameters = []; right = no_right_side }

abbrev pub the_theorem : PieceText → ThmText
the_theorem (a_theorem th) = th
the_theorem _ = Cited []

abbrev pub theorems_in : PieceText → List ThmText
theorems_in (some_theorems ths) = ths
theorems_in _ = []

abbrev pub the_pair : PieceText → TypePairText
the_pair (a_pair p) = p
the_pair _ = record { new_type = no_type_quotation; old_type = no_type_quotation }

abbrev pub pairs_in : PieceText → List TypePairText
pairs_in (some_pairs ps) = ps
pairs_in _ = []

abbrev pub the_argument : PieceText → ArgumentText
the_argument (an_argument a) = a
the_argument _ = Theorem (Cited [])

abbrev pub arguments_in : PieceText → List ArgumentText
arguments_in (some_arguments xs) = xs
arguments_in _ = []

abbrev pub the_call : PieceText → CallText
the_call (a_call c) = c
the_call _ = no_call

abbrev pub the_tactic : PieceText → TacText
the_tactic (a_tactic t) = t
the_tactic _ = Call no_call

abbrev pub tactic_if_any : PieceText → Option TacText
tactic_if_any (maybe_tactic t) = t
tactic_if_any _ = None

abbrev pub tactics_in : PieceText → List TacText
tactics_in (some_tactics ts) = ts
tactics_in _ = []

abbrev pub steps_in : PieceText → List ThenText
steps_in (some_steps ss) = ss
steps_in _ = []

abbrev pub the_command : PieceText → CommandText
the_command (a_command c) = c
the_command _ = Direct Back
