-- What the code's pieces stand for.
use Rattle.std.specs.Prelude.{List, map, reverse, option_map}
use Rattle.std.specs.Global.{Vec}
use Rattle.hol_notation_tokens.specs.Lexeme.{seen}
use Rattle.hol_notation_grammar.specs.Step.{name_texts}
use Rattle.hol_notation_terms.specs.Text.{VariableText, TermText}
use Rattle.hol_notation_reader.specs.declared.piece.Side.{Side}
use Rattle.hol_notation_reader.specs.declared.piece.ThenStep.{ThenStep}
use Rattle.hol_notation_reader.specs.declared.piece.ThenStep.TheVariants.{One, Each}
use Rattle.hol_notation_reader.specs.declared.piece.Piece.{Piece}
use Rattle.hol_notation_reader.specs.declared.piece.Piece.TheVariants as piece
use Rattle.hol_notation_reader.specs.Piece.{SideText, ThenText, one, each, PieceText, a_call, a_command, a_definition, a_pair, a_quotation, a_right_side, a_tactic, a_term, a_theorem, a_type, a_type_quotation, a_word, after_binder, after_name, after_not, an_argument, bound, maybe_tactic, maybe_term, maybe_type, some_arguments, some_pairs, some_parameters, some_steps, some_tactics, some_terms, some_theorems, type_list, type_names}

abbrev pub side_text : Side → SideText
side_text s = record { operator = s.operator; term = s.term }

abbrev pub side_texts : List Side → List SideText
side_texts ss = map side_text ss

abbrev pub then_text : ThenStep → ThenText
then_text (One t) = one t
then_text (Each ts) = each ts.items

abbrev pub then_texts : List ThenStep → List ThenText
then_texts ss = map then_text ss

abbrev pub binding_text : Vec VariableText × TermText → List VariableText × TermText
binding_text b = (reverse b.0.items, b.1)

abbrev pub piece_of : Piece → PieceText
piece_of (piece.Word a) = a_word (seen a)
piece_of (piece.Type a) = a_type a
piece_of (piece.MaybeType a) = maybe_type a
piece_of (piece.TypeNames a) = type_names (reverse (name_texts a.items))
piece_of (piece.TypeList a b) = type_list (reverse a.items) (reverse (name_texts b.items))
piece_of (piece.Term a) = a_term a
piece_of (piece.MaybeTerm a) = maybe_term a
piece_of (piece.Terms a) = some_terms (reverse a.items)
piece_of (piece.Bound a b) = bound (reverse a.items) b
piece_of (piece.AfterName a b c) = after_name a (reverse b.items) c
piece_of (piece.AfterNot a b) = after_not a (reverse (side_texts b.items))
piece_of (piece.AfterBinder a b) = after_binder (option_map binding_text a) (reverse (side_texts b.items))
piece_of (piece.Quotation a) = a_quotation a
piece_of (piece.TypeQuotation a) = a_type_quotation a
piece_of (piece.RightSide a) = a_right_side a
piece_of (piece.Parameters a b) = some_parameters (reverse a.items) b
piece_of (piece.Definition a) = a_definition a
piece_of (piece.Theorem a) = a_theorem a
piece_of (piece.Theorems a) = some_theorems (reverse a.items)
piece_of (piece.Pair a) = a_pair a
piece_of (piece.Pairs a) = some_pairs (reverse a.items)
piece_of (piece.Argument a) = an_argument a
piece_of (piece.Arguments a) = some_arguments (reverse a.items)
piece_of (piece.Call a) = a_call a
piece_of (piece.Tactic a) = a_tactic a
piece_of (piece.MaybeTactic a) = maybe_tactic a
piece_of (piece.Tactics a) = some_tactics (reverse a.items)
piece_of (piece.Steps a) = some_steps (reverse (then_texts a.items))
piece_of (piece.Command a) = a_command a

-- the pieces, of which the last is on top
abbrev pub pieces_of : List Piece → List PieceText
pieces_of ps = reverse (map piece_of ps)
