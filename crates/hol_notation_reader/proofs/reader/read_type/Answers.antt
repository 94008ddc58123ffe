use Rattle.std.proofs.Common.{map, refl}
use Rattle.hol_notation_tokens.specs.Lexeme.{seen}
use Rattle.hol_notation_grammar.specs.declared.grammar.Rule.TheVariants as rule
use Rattle.hol_notation_reader.specs.Piece.{a_type, the_type}
use Rattle.hol_notation_reader.specs.View.{pieces_of}
use Rattle.hol_notation_reader.proofs.Values.{built_first, built_says}
use Rattle.hol_notation_reader.proofs.reader.read_type.Goals as goal

pub pop_type-requires : goal.pop_type-requires
pop_type-requires c = built_first rule.Type (map seen c.args.words.now) (pieces_of c.in_ok-pieces.pieces.items) c.in_ok-pieces.ensures

pub returns : goal.returns
returns c =
    built_says rule.Type the_type (map seen c.args.words.now) (pieces_of c.in_ok-pieces.pieces.items) (pieces_of c.pop_type.new.pieces.items) (a_type c.pop_type.result) c.pop_type.result c.in_ok-pieces.ensures c.pop_type.ensures refl
