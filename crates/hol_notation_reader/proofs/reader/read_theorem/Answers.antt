use Rattle.std.proofs.Common.{map, refl}
use Rattle.hol_notation_tokens.specs.Lexeme.{seen}
use Rattle.hol_notation_grammar.specs.declared.grammar.Rule.TheVariants as rule
use Rattle.hol_notation_reader.specs.Piece.{a_theorem, the_theorem}
use Rattle.hol_notation_reader.specs.View.{pieces_of}
use Rattle.hol_notation_reader.proofs.Values.{built_first, built_says}
use Rattle.hol_notation_reader.proofs.reader.read_theorem.Goals as goal

pub pop_theorem-requires : goal.pop_theorem-requires
pop_theorem-requires c = built_first rule.Theorem (map seen c.args.words.now) (pieces_of c.in_ok-pieces.pieces.items) c.in_ok-pieces.ensures

pub returns : goal.returns
returns c =
    built_says rule.Theorem the_theorem (map seen c.args.words.now) (pieces_of c.in_ok-pieces.pieces.items) (pieces_of c.pop_theorem.new.pieces.items) (a_theorem c.pop_theorem.result) c.pop_theorem.result c.in_ok-pieces.ensures c.pop_theorem.ensures refl
