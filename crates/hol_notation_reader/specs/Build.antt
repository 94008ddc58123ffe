-- What each production builds of its parts, which are counted from 0 on.
use Rattle.std.specs.Prelude.{ℕ, ◌+◌, true, false, List, [], ◌∷◌, ◌++◌, length, take, drop, Option, Some, None}
use Rattle.hol_notation_tokens.specs.declared.token.Kind.{Kind}
use Rattle.hol_notation_tokens.specs.declared.token.Kind.TheVariants as token
use Rattle.hol_notation_grammar.specs.Number.{number_value}
use Rattle.hol_notation_grammar.specs.declared.grammar.Production.{Production}
use Rattle.hol_notation_grammar.specs.declared.grammar.Production.TheVariants.{OpenGoal, RunTactic, DefineTactic, Undo, RotateGoals, Finish, GiveUp, ImportTheory, MakeType, MakeConstant, MakeAxiom, MakeDefinition, MakeTypeDefinition, SequenceFirst, NoAlternative, OrElseTactic, ApplicationFirst, NoStep, ThenOne, ThenEach, Called, BracketedTactic, EveryTactic, FirstTactic, RepeatTactic, TryTactic, ChangedTactic, ReplicateTactic, Discharge, PopAssumption, FirstAssumption, Subgoal, NamedAtom, BracketedAtom, ListedTactics, NoTactics, SomeTactics, LastTactic, NextTactic, NamedTheoremTactic, BracketedTheoremTactic, NoTacticArgument, MoreTacticArguments, TheoremArgument, TermArgument, GroupedArgument, ListedArgument, OneTheorem, TwoTerms, NoTheorems, SomeTheorems, LastTheorem, NextTheorem, Simple, Assumption, Reflexivity, Specialisation, Symmetry, FirstConjunct, SecondConjunct, ModusPonens, Instantiation, Cited, BracketedTheorem, TwoTypes, LastPair, NextPair, QuotedType, Defined, NoParameter, NamedParameter, TypedParameter, PlainSide, TypedSide, EqualsSide, IffSide, QuotedTerm, AppliedFirst, NoArrow, ToType, NamedType, ListedType, OneType, SecondType, LastType, NextType, NoPostfix, PostfixName, IffFirst, NoIff, MoreIff, ImpliesFirst, NoImplies, MoreImplies, OrFirst, NoOr, MoreOr, AndFirst, NoAnd, MoreAnd, EqualsFirst, NoEquals, MoreEquals, Plain, Negation, Binding, TypedTerm, NoArgument, MoreArguments, NoAnnotation, Annotated, Named, Parenthesised, PlainInside, InfixAlone, NotInside, BinderInside, LambdaInside, NotAlone, NotApplied, BinderAlone, BinderApplied, NamedBound, TypedBound, NameAlone, LastTyped, BoundBody, BoundMore}
use Rattle.hol_notation_grammar.specs.Table.{symbols}
use Rattle.hol_notation_terms.specs.declared.operator.Operator.{Operator}
use Rattle.hol_notation_terms.specs.declared.operator.Operator.TheVariants as operator
use Rattle.hol_notation_terms.specs.Text.{TypeText, Ident, Arrow, no_types, more_types, type_texts, VariableText, TermText}
use Rattle.hol_notation_terms.specs.Text as text
use Rattle.hol_notation_tactics.specs.Text.{CallText, TacText, tac_texts}
use Rattle.hol_notation_tactics.specs.Text as tactic
use Rattle.hol_notation_commands.specs.Text.{Local, Direct}
use Rattle.hol_notation_commands.specs.Text as command
use Rattle.hol_notation_reader.specs.Piece.{SideText, ThenText, one, each, PieceText, a_type, maybe_type, type_names, type_list, a_term, maybe_term, some_terms, bound, after_name, after_not, after_binder, a_quotation, a_type_quotation, a_right_side, some_parameters, a_definition, a_theorem, some_theorems, a_pair, some_pairs, an_argument, some_arguments, a_call, a_tactic, maybe_tactic, some_tactics, some_steps, a_command, at, the_word, the_text, the_type, type_if_any, names_in, types_in, the_term, term_if_any, terms_in, variables_in, annotation_in, sides_in, bound_if_any, the_quotation, the_type_quotation, the_right_side, the_definition, the_theorem, theorems_in, the_pair, pairs_in, the_argument, arguments_in, the_call, the_tactic, tactic_if_any, tactics_in, steps_in}

-- constructors behind a type
abbrev pub postfix : TypeText → List (List ℕ) → TypeText
postfix t [] = t
postfix t (c ∷ cs) = postfix (text.Apply c (more_types t no_types)) cs

-- a type in parentheses, or a list of types to which the first of the constructors is applied
abbrev pub listed : TypeText → List TypeText → List (List ℕ) → TypeText
listed t [] cs = postfix t cs
listed t (u ∷ ts) [] = t
listed t (u ∷ ts) (c ∷ cs) = postfix (text.Apply c (type_texts (t ∷ u ∷ ts))) cs

abbrev pub arrow : TypeText → Option TypeText → TypeText
arrow s None = s
arrow s (Some t) = text.Arrow s t

-- the constant of a symbol; the others are no constants
abbrev pub operator_of : Kind → Operator
operator_of token.Iff = operator.Iff
operator_of token.Implies = operator.Implies
operator_of token.Or = operator.Or
operator_of token.And = operator.And
operator_of token.Equals = operator.Equals
operator_of token.Not = operator.Not
operator_of token.ForAll = operator.ForAll
operator_of token.Exists = operator.Exists
operator_of token.ExistsUnique = operator.ExistsUnique
operator_of _ = operator.Choice

abbrev pub infix_term : Operator → TermText → TermText → TermText
infix_term c l r = text.Applied (text.Applied (text.Constant c) l) r

-- a term, and behind it an infix, if there is one
abbrev pub maybe_infix : Operator → TermText → Option TermText → TermText
maybe_infix c l None = l
maybe_infix c l (Some r) = infix_term c l r

abbrev pub side : Operator → Option TermText → List SideText
side c None = []
side c (Some r) = record { operator = c; term = r } ∷ []

-- infixes behind a term, the tightest first
abbrev pub with_sides : TermText → List SideText → TermText
with_sides t [] = t
with_sides t (s ∷ ss) = with_sides (infix_term s.operator t s.term) ss

abbrev pub five_sides : Option TermText → Option TermText → Option TermText → Option TermText → Option TermText → List SideText
five_sides e a o i f = side operator.Equals e ++ side operator.And a ++ side operator.Or o ++ side operator.Implies i ++ side operator.Iff f

-- those of five parts from a place on
abbrev pub sides_from : ℕ → List PieceText → List SideText
sides_from n vs = five_sides (term_if_any (at n vs)) (term_if_any (at (1 + n) vs)) (term_if_any (at (2 + n) vs)) (term_if_any (at (3 + n) vs)) (term_if_any (at (4 + n) vs))

-- a variable bound by a binder
abbrev pub bind : Kind → VariableText → TermText → TermText
bind token.Lambda v b = text.Abstraction v b
bind k v b = text.Applied (text.Constant (operator_of k)) (text.Abstraction v b)

abbrev pub bind_all : Kind → List VariableText → TermText → TermText
bind_all k [] b = b
bind_all k (v ∷ vs) b = bind k v (bind_all k vs b)

abbrev pub applied : TermText → List TermText → TermText
applied f [] = f
applied f (a ∷ bs) = applied (text.Applied f a) bs

abbrev pub typed : TermText → Option TypeText → TermText
typed t None = t
typed t (Some ty) = text.Typed t ty

abbrev pub variable : List ℕ → Option TypeText → VariableText
variable name annotation = record { name = name; annotation = annotation }

abbrev pub not_inside : Option TermText → List SideText → TermText
not_inside None ss = text.Constant operator.Not
not_inside (Some t) ss = with_sides (text.Applied (text.Constant operator.Not) t) ss

abbrev pub binder_inside : Kind → Option (List VariableText × TermText) → List SideText → TermText
binder_inside k None ss = text.Constant (operator_of k)
binder_inside k (Some b) ss = with_sides (bind_all k b.0 b.1) ss

abbrev pub call : List ℕ → List tactic.ArgumentText → CallText
call name arguments = record { name = name; arguments = arguments }

abbrev pub then_all : TacText → List ThenText → TacText
then_all t [] = t
then_all t (one u ∷ ss) = then_all (tactic.Then t u) ss
then_all t (each us ∷ ss) = then_all (tactic.ThenL t (tac_texts us)) ss

abbrev pub alternative : TacText → Option TacText → TacText
alternative t None = t
alternative t (Some u) = tactic.OrElse t u

abbrev pub make : command.MakingText → PieceText
make m = a_command (Local (command.Make m))

abbrev pub build : Production → List PieceText → PieceText
build OpenGoal vs = a_command (Local (command.Goal (the_text (at 1 vs)) (the_quotation (at 2 vs))))
build RunTactic vs = a_command (Local (command.Apply (the_tactic (at 1 vs))))
build DefineTactic vs = a_command (Local (command.DefineTac (the_text (at 1 vs)) (the_tactic (at 2 vs))))
build Undo vs = a_command (Direct command.Back)
build RotateGoals vs = a_command (Direct (command.Rotate (number_value (the_text (at 1 vs)))))
build Finish vs = a_command (Local command.Qed)
build GiveUp vs = a_command (Direct command.Oops)
build ImportTheory vs = a_command (Direct (command.Import (the_text (at 1 vs))))
build MakeType vs = make (command.NewType (the_text (at 1 vs)) (number_value (the_text (at 2 vs))))
build MakeConstant vs = make (command.NewConstant (the_text (at 1 vs)) (the_type_quotation (at 2 vs)))
build MakeAxiom vs = make (command.NewAxiom (the_text (at 1 vs)) (the_quotation (at 2 vs)))
build MakeDefinition vs = make (command.NewDefinition (the_text (at 1 vs)) (the_definition (at 2 vs)))
build MakeTypeDefinition vs =
    make (command.NewBasicTypeDefinition (record { ty = the_text (at 1 vs); abs = the_text (at 2 vs); rep = the_text (at 3 vs); abs_rep = the_text (at 4 vs); rep_abs = the_text (at 5 vs); theorem = the_text (at 6 vs) }))
build SequenceFirst vs = a_tactic (alternative (the_tactic (at 0 vs)) (tactic_if_any (at 1 vs)))
build NoAlternative vs = maybe_tactic None
build OrElseTactic vs = maybe_tactic (Some (the_tactic (at 1 vs)))
build ApplicationFirst vs = a_tactic (then_all (the_tactic (at 0 vs)) (steps_in (at 1 vs)))
build NoStep vs = some_steps []
build ThenOne vs = some_steps (one (the_tactic (at 1 vs)) ∷ steps_in (at 2 vs))
build ThenEach vs = some_steps (each (tactics_in (at 1 vs)) ∷ steps_in (at 2 vs))
build Called vs = a_tactic (tactic.Call (call (the_text (at 0 vs)) (arguments_in (at 1 vs))))
build BracketedTactic vs = a_tactic (the_tactic (at 1 vs))
build EveryTactic vs = a_tactic (tactic.Every (tac_texts (tactics_in (at 1 vs))))
build FirstTactic vs = a_tactic (tactic.First (tac_texts (tactics_in (at 1 vs))))
build RepeatTactic vs = a_tactic (tactic.Repeat (the_tactic (at 1 vs)))
build TryTactic vs = a_tactic (tactic.Try (the_tactic (at 1 vs)))
build ChangedTactic vs = a_tactic (tactic.Changed (the_tactic (at 1 vs)))
build ReplicateTactic vs = a_tactic (tactic.Replicate (number_value (the_text (at 1 vs))) (the_tactic (at 2 vs)))
build Discharge vs = a_tactic (tactic.DischThen (the_call (at 1 vs)))
build PopAssumption vs = a_tactic (tactic.PopAssum (the_call (at 1 vs)))
build FirstAssumption vs = a_tactic (tactic.FirstAssum (the_call (at 1 vs)))
build Subgoal vs = a_tactic (tactic.SubgoalThen (the_quotation (at 1 vs)) (the_call (at 2 vs)))
build NamedAtom vs = a_tactic (tactic.Call (call (the_text (at 0 vs)) []))
build BracketedAtom vs = a_tactic (the_tactic (at 1 vs))
build ListedTactics vs = some_tactics (tactics_in (at 1 vs))
build NoTactics vs = some_tactics []
build SomeTactics vs = some_tactics (the_tactic (at 0 vs) ∷ tactics_in (at 1 vs))
build LastTactic vs = some_tactics []
build NextTactic vs = some_tactics (the_tactic (at 1 vs) ∷ tactics_in (at 2 vs))
build NamedTheoremTactic vs = a_call (call (the_text (at 0 vs)) [])
build BracketedTheoremTactic vs = a_call (call (the_text (at 1 vs)) (arguments_in (at 2 vs)))
build NoTacticArgument vs = some_arguments []
build MoreTacticArguments vs = some_arguments (the_argument (at 0 vs) ∷ arguments_in (at 1 vs))
build TheoremArgument vs = an_argument (tactic.Theorem (tactic.Cited (the_text (at 0 vs))))
build TermArgument vs = an_argument (tactic.Term (the_quotation (at 0 vs)))
build GroupedArgument vs = an_argument (the_argument (at 1 vs))
build ListedArgument vs = an_argument (tactic.Theorems (theorems_in (at 1 vs)))
build OneTheorem vs = an_argument (tactic.Theorem (the_theorem (at 0 vs)))
build TwoTerms vs = an_argument (tactic.Pair (the_quotation (at 0 vs)) (the_quotation (at 2 vs)))
build NoTheorems vs = some_theorems []
build SomeTheorems vs = some_theorems (the_theorem (at 0 vs) ∷ theorems_in (at 1 vs))
build LastTheorem vs = some_theorems []
build NextTheorem vs = some_theorems (the_theorem (at 1 vs) ∷ theorems_in (at 2 vs))
build Simple vs = a_theorem (the_theorem (at 0 vs))
build Assumption vs = a_theorem (tactic.Assume (the_quotation (at 1 vs)))
build Reflexivity vs = a_theorem (tactic.Refl (the_quotation (at 1 vs)))
build Specialisation vs = a_theorem (tactic.Spec (the_quotation (at 1 vs)) (the_theorem (at 2 vs)))
build Symmetry vs = a_theorem (tactic.Sym (the_theorem (at 1 vs)))
build FirstConjunct vs = a_theorem (tactic.Conjunct1 (the_theorem (at 1 vs)))
build SecondConjunct vs = a_theorem (tactic.Conjunct2 (the_theorem (at 1 vs)))
build ModusPonens vs = a_theorem (tactic.Mp (the_theorem (at 1 vs)) (the_theorem (at 2 vs)))
build Instantiation vs = a_theorem (tactic.InstType (the_pair (at 2 vs) ∷ pairs_in (at 3 vs)) (the_theorem (at 4 vs)))
build Cited vs = a_theorem (tactic.Cited (the_text (at 0 vs)))
build BracketedTheorem vs = a_theorem (the_theorem (at 1 vs))
build TwoTypes vs = a_pair (record { new_type = the_type_quotation (at 0 vs); old_type = the_type_quotation (at 2 vs) })
build LastPair vs = some_pairs []
build NextPair vs = some_pairs (the_pair (at 1 vs) ∷ pairs_in (at 2 vs))
build QuotedType vs = a_type_quotation (record { place = (the_word (at 0 vs)).place; ty = the_type (at 2 vs) })
build Defined vs =
    a_definition (record { place = (the_word (at 0 vs)).place; name = the_text (at 1 vs); parameters = variables_in (at 2 vs); right = the_right_side (at 2 vs) })
build NoParameter vs = some_parameters [] (the_right_side (at 0 vs))
build NamedParameter vs = some_parameters (variable (the_text (at 0 vs)) None ∷ variables_in (at 1 vs)) (the_right_side (at 1 vs))
build TypedParameter vs = some_parameters (variable (the_text (at 1 vs)) (Some (the_type (at 3 vs))) ∷ variables_in (at 5 vs)) (the_right_side (at 5 vs))
build PlainSide vs = a_right_side (the_right_side (at 0 vs))
build TypedSide vs = a_right_side (record { annotation = Some (the_type (at 1 vs)); is_iff = (the_right_side (at 2 vs)).is_iff; term = (the_right_side (at 2 vs)).term })
build EqualsSide vs = a_right_side (record { annotation = None; is_iff = false; term = the_term (at 1 vs) })
build IffSide vs = a_right_side (record { annotation = None; is_iff = true; term = the_term (at 1 vs) })
build QuotedTerm vs = a_quotation (record { place = (the_word (at 0 vs)).place; term = the_term (at 1 vs) })
build AppliedFirst vs = a_type (arrow (the_type (at 0 vs)) (type_if_any (at 1 vs)))
build NoArrow vs = maybe_type None
build ToType vs = maybe_type (Some (the_type (at 1 vs)))
build NamedType vs = a_type (postfix (Ident (the_text (at 0 vs))) (names_in (at 1 vs)))
build ListedType vs = a_type (listed (the_type (at 1 vs)) (types_in (at 2 vs)) (names_in (at 2 vs)))
build OneType vs = type_list [] (names_in (at 1 vs))
build SecondType vs = type_list (the_type (at 1 vs) ∷ types_in (at 2 vs)) (names_in (at 2 vs))
build LastType vs = type_list [] (the_text (at 1 vs) ∷ names_in (at 2 vs))
build NextType vs = type_list (the_type (at 1 vs) ∷ types_in (at 2 vs)) (names_in (at 2 vs))
build NoPostfix vs = type_names []
build PostfixName vs = type_names (the_text (at 0 vs) ∷ names_in (at 1 vs))
build IffFirst vs = a_term (maybe_infix operator.Iff (the_term (at 0 vs)) (term_if_any (at 1 vs)))
build NoIff vs = maybe_term None
build MoreIff vs = maybe_term (Some (the_term (at 1 vs)))
build ImpliesFirst vs = a_term (maybe_infix operator.Implies (the_term (at 0 vs)) (term_if_any (at 1 vs)))
build NoImplies vs = maybe_term None
build MoreImplies vs = maybe_term (Some (the_term (at 1 vs)))
build OrFirst vs = a_term (maybe_infix operator.Or (the_term (at 0 vs)) (term_if_any (at 1 vs)))
build NoOr vs = maybe_term None
build MoreOr vs = maybe_term (Some (the_term (at 1 vs)))
build AndFirst vs = a_term (maybe_infix operator.And (the_term (at 0 vs)) (term_if_any (at 1 vs)))
build NoAnd vs = maybe_term None
build MoreAnd vs = maybe_term (Some (the_term (at 1 vs)))
build EqualsFirst vs = a_term (maybe_infix operator.Equals (the_term (at 0 vs)) (term_if_any (at 1 vs)))
build NoEquals vs = maybe_term None
build MoreEquals vs = maybe_term (Some (the_term (at 1 vs)))
build Plain vs = a_term (the_term (at 0 vs))
build Negation vs = a_term (text.Applied (text.Constant operator.Not) (the_term (at 1 vs)))
build Binding vs = a_term (bind_all (the_word (at 0 vs)).kind (variables_in (at 1 vs)) (the_term (at 1 vs)))
build TypedTerm vs = a_term (typed (applied (the_term (at 0 vs)) (terms_in (at 1 vs))) (type_if_any (at 2 vs)))
build NoArgument vs = some_terms []
build MoreArguments vs = some_terms (the_term (at 0 vs) ∷ terms_in (at 1 vs))
build NoAnnotation vs = maybe_type None
build Annotated vs = maybe_type (Some (the_type (at 1 vs)))
build Named vs = a_term (text.Named (the_text (at 0 vs)))
build Parenthesised vs = a_term (the_term (at 1 vs))
build PlainInside vs = a_term (with_sides (the_term (at 0 vs)) (sides_from 1 vs))
build InfixAlone vs = a_term (text.Constant (operator_of (the_word (at 0 vs)).kind))
build NotInside vs = a_term (not_inside (term_if_any (at 1 vs)) (sides_in (at 1 vs)))
build BinderInside vs = a_term (binder_inside (the_word (at 0 vs)).kind (bound_if_any (at 1 vs)) (sides_in (at 1 vs)))
build LambdaInside vs = a_term (with_sides (bind_all (the_word (at 0 vs)).kind (variables_in (at 1 vs)) (the_term (at 1 vs))) (sides_from 2 vs))
build NotAlone vs = after_not None []
build NotApplied vs = after_not (Some (the_term (at 0 vs))) (sides_from 1 vs)
build BinderAlone vs = after_binder None []
build BinderApplied vs = after_binder (Some (variables_in (at 0 vs), the_term (at 0 vs))) (sides_from 1 vs)
build NamedBound vs = bound (variable (the_text (at 0 vs)) (annotation_in (at 1 vs)) ∷ variables_in (at 1 vs)) (the_term (at 1 vs))
build TypedBound vs = bound (variable (the_text (at 1 vs)) (Some (the_type (at 3 vs))) ∷ variables_in (at 5 vs)) (the_term (at 5 vs))
build NameAlone vs = after_name None (variables_in (at 0 vs)) (the_term (at 0 vs))
build LastTyped vs = after_name (Some (the_type (at 1 vs))) [] (the_term (at 3 vs))
build BoundBody vs = bound [] (the_term (at 1 vs))
build BoundMore vs = bound (variables_in (at 0 vs)) (the_term (at 0 vs))

-- what it leaves of pieces of which its parts are the first
abbrev pub reduced : Production → List PieceText → List PieceText
reduced p vs = build p (take (length (symbols p)) vs) ∷ drop (length (symbols p)) vs
