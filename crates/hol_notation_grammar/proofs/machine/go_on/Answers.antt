use Rattle.std.proofs.Common.{reverse}
use Rattle.hol_notation_tokens.specs.Lexeme.{seen}
use Rattle.hol_notation_grammar.specs.Step.{step_texts, name_texts}
use Rattle.hol_notation_grammar.proofs.Steps.{ok_each, goes_or_not, accepted, not_accepted}
use Rattle.hol_notation_grammar.proofs.machine.go_on.Goals as goal

pub returns-in-Some : goal.returns-in-Some
returns-in-Some c =
    ok_each _ _ c.note.result
    (λ new h. goes_or_not (seen c.args.word.now) c.in-Some.class (reverse c.args.todo.now.items) (reverse c.accept.new.todo.items) (step_texts c.args.steps.now.items) (step_texts c.accept.new.steps.items)
    (name_texts c.args.names.now.items) (name_texts c.note.new.names.items) new
    (accepted (seen c.args.word.now) (reverse c.args.todo.now.items) (reverse c.accept.new.todo.items) (step_texts c.args.steps.now.items) (step_texts c.accept.new.steps.items) _ c.in-Some.class c.in-Some.is
    c.in_ok-class.ensures) h)
    c.note.ensures

pub returns-in-None : goal.returns-in-None
returns-in-None c =
    not_accepted (seen c.args.word.now) (reverse c.args.todo.now.items) (reverse c.accept.new.todo.items) (step_texts c.args.steps.now.items) (step_texts c.accept.new.steps.items)
    (name_texts c.args.names.now.items) (name_texts c.args.names.now.items) _ c.in-None.is c.in_ok-class.ensures
