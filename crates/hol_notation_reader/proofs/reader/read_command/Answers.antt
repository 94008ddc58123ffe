use Rattle.std.proofs.Common.{List, map, subst, Err}
use Rattle.std.proofs.lemmas.Result.{err_from_is_err_and}
use Rattle.hol_notation_tokens.specs.declared.lexer.Word.{Word}
use Rattle.hol_notation_tokens.specs.Lexeme.{seen}
use Rattle.hol_notation_reader.specs.Reading.{IsCommand}
use Rattle.hol_notation_reader.specs.Errors.{IsAnswer}
use Rattle.hol_notation_reader.proofs.Text.{error_breaks, break_after, whole_command}
use Rattle.hol_notation_reader.proofs.reader.read_command.Goals as goal

pub returns-in_err-command : goal.returns-in_err-command
returns-in_err-command c =
    let p = err_from_is_err_and c.from_residual-in_err-command.result c.from_residual-in_err-command.ensures.1 in
    rw (p.1, p.2) (error_breaks c.args.text.now c.in_ok-words.words.items c.in_ok-words.end c.in_err-command.field-0.0 c.in_ok-words.ensures
    (subst (λ (ws : List Word). IsAnswer c.in_ok-words.end (map seen ws) (Err c.in_err-command.field-0.0)) c.deref.ensures.value c.in_err-command.ensures))

pub returns-then-end-text : goal.returns-then-end-text
returns-then-end-text c =
    break_after c.args.text.now c.in_ok-words.words.items c.in_ok-words.end c.in_ok-command.command c.in_ok-words.ensures c.if-end-text.true
    (subst (λ (ws : List Word). IsCommand (map seen ws) c.in_ok-command.command) c.deref.ensures.value c.in_ok-command.ensures)

pub returns : goal.returns
returns c =
    whole_command c.args.text.now c.in_ok-words.words.items c.in_ok-words.end c.in_ok-command.command c.in_ok-words.ensures c.if-end-text.false
    (subst (λ (ws : List Word). IsCommand (map seen ws) c.in_ok-command.command) c.deref.ensures.value c.in_ok-command.ensures)
