use Rattle.std.proofs.Common.{map, refl}
use Rattle.hol_notation_tokens.specs.Lexeme.{seen}
use Rattle.hol_notation_grammar.specs.declared.grammar.Rule.TheVariants as rule
use Rattle.hol_notation_reader.specs.Piece.{a_term, the_term}
use Rattle.hol_notation_reader.specs.View.{pieces_of}
use Rattle.hol_notation_reader.proofs.Values.{built_first, built_says}
use Rattle.hol_notation_reader.proofs.reader.read_term.Goals as goal

pub pop_term-requires : goal.pop_term-requires
pop_term-requires c = built_first rule.Term (map seen c.args.words.now) (pieces_of c.in_ok-pieces.pieces.items) c.in_ok-pieces.ensures

pub returns : goal.returns
returns c =
    built_says rule.Term the_term (map seen c.args.words.now) (pieces_of c.in_ok-pieces.pieces.items) (pieces_of c.pop_term.new.pieces.items) (a_term c.pop_term.result) c.pop_term.result c.in_ok-pieces.ensures c.pop_term.ensures refl
