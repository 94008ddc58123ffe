use Rattle.std.proofs.Common.{◌∷◌, ◌∙◌, sym, reverse, Some}
use Rattle.hol_notation_tokens.specs.Lexeme.{seen}
use Rattle.hol_notation_grammar.specs.Step.{step_texts}
use Rattle.hol_notation_grammar.proofs.Steps.{omits_some, omits_none, accepts_taken, accepts_none, accepts_over}
use Rattle.hol_notation_grammar.proofs.machine.accept.Goals as goal

pub returns-in_ok-descend-in-Some : goal.returns-in_ok-descend-in-Some
returns-in_ok-descend-in-Some c =
    let o = omits_some (Some c.sort_of-sort.result) (reverse c.args.todo.now.items) (reverse c.omit.new.todo.items) (step_texts c.args.steps.now.items) (step_texts c.omit.new.steps.items) _ c.in-Some.top c.in-Some.is
    c.in_ok-top.ensures in
    accepts_taken (seen c.args.word.now) c.in_ok-descend-in-Some.field-0 c.sort_of-sort.result (reverse c.args.todo.now.items) (c.in-Some.top ∷ reverse c.omit.new.todo.items) (reverse c.descend.new.todo.items)
    (step_texts c.args.steps.now.items) (step_texts c.omit.new.steps.items) (step_texts c.descend.new.steps.items) c.sort_of-sort.ensures o.1 c.in_ok-descend-in-Some.ensures

pub returns-else-is_begun : goal.returns-else-is_begun
returns-else-is_begun c =
    let o = omits_some (Some c.sort_of-sort.result) (reverse c.args.todo.now.items) (reverse c.omit.new.todo.items) (step_texts c.args.steps.now.items) (step_texts c.omit.new.steps.items) _ c.in-Some.top c.in-Some.is
    c.in_ok-top.ensures in
    accepts_none (seen c.args.word.now) c.sort_of-sort.result (reverse c.args.todo.now.items) (reverse c.omit.new.todo.items) (reverse c.omit.new.todo.items) (step_texts c.args.steps.now.items)
    (step_texts c.omit.new.steps.items) (step_texts c.omit.new.steps.items) c.in-Some.top c.sort_of-sort.ensures o.0 o.1 (sym c.is_begun.ensures ∙ c.if-is_begun.false)

pub returns-in-None : goal.returns-in-None
returns-in-None c =
    accepts_over (seen c.args.word.now) c.sort_of-sort.result (reverse c.args.todo.now.items) (reverse c.omit.new.todo.items) (step_texts c.args.steps.now.items) (step_texts c.omit.new.steps.items)
    (step_texts c.omit.new.steps.items) c.sort_of-sort.ensures
    (omits_none (Some c.sort_of-sort.result) (reverse c.args.todo.now.items) (reverse c.omit.new.todo.items) (step_texts c.args.steps.now.items) (step_texts c.omit.new.steps.items) _ c.in-None.is c.in_ok-top.ensures)
