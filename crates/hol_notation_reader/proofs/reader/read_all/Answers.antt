use Rattle.std.proofs.Common.{map, refl}
use Rattle.std.proofs.lemmas.Result.{err_from_is_err_and}
use Rattle.hol_notation_tokens.specs.Lexeme.{seen}
use Rattle.hol_notation_grammar.specs.declared.grammar.Rule.TheVariants as rule
use Rattle.hol_notation_reader.specs.Piece.{a_command, the_command}
use Rattle.hol_notation_reader.specs.View.{pieces_of}
use Rattle.hol_notation_reader.proofs.Values.{built_first, built_says}
use Rattle.hol_notation_reader.proofs.Text.{answer_err}
use Rattle.hol_notation_reader.proofs.reader.read_all.Goals as goal

pub pop_command-requires : goal.pop_command-requires
pop_command-requires c = built_first rule.Command (map seen c.args.words.now) (pieces_of c.in_ok-pieces.pieces.items) c.in_ok-pieces.ensures

pub returns-in_err-pieces : goal.returns-in_err-pieces
returns-in_err-pieces c =
    let p = err_from_is_err_and c.from_residual.result c.from_residual.ensures.1 in
    rw (p.1, p.2) (answer_err c.args.end (map seen c.args.words.now) c.in_err-pieces.field-0.0 c.in_err-pieces.ensures)

pub returns : goal.returns
returns c =
    built_says rule.Command the_command (map seen c.args.words.now) (pieces_of c.in_ok-pieces.pieces.items) (pieces_of c.pop_command.new.pieces.items) (a_command c.pop_command.result) c.pop_command.result c.in_ok-pieces.ensures c.pop_command.ensures refl
