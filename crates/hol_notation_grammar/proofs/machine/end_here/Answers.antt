use Rattle.std.proofs.Common.{reverse, None}
use Rattle.hol_notation_grammar.specs.Step.{step_texts}
use Rattle.hol_notation_grammar.proofs.Steps.{omits_some, omits_none, ends_there, ends_not}
use Rattle.hol_notation_grammar.proofs.machine.end_here.Goals as goal

pub returns-in-Some : goal.returns-in-Some
returns-in-Some c =
    let o = omits_some None (reverse c.args.todo.now.items) (reverse c.omit.new.todo.items) (step_texts c.args.steps.now.items) (step_texts c.omit.new.steps.items) _ c.in-Some.field-0 c.in-Some.is c.in_ok-omit.ensures in
    ends_not (reverse c.args.todo.now.items) (reverse c.omit.new.todo.items) (step_texts c.args.steps.now.items) (step_texts c.omit.new.steps.items) (step_texts c.omit.new.steps.items) c.in-Some.field-0 o.0 o.1

pub returns-in-None : goal.returns-in-None
returns-in-None c =
    ends_there (reverse c.args.todo.now.items) (step_texts c.args.steps.now.items) (step_texts c.omit.new.steps.items)
    (omits_none None (reverse c.args.todo.now.items) (reverse c.omit.new.todo.items) (step_texts c.args.steps.now.items) (step_texts c.omit.new.steps.items) _ c.in-None.is c.in_ok-omit.ensures)
