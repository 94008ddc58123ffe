use Rattle.std.proofs.Common.{reverse, length}
use Rattle.hol_notation_grammar.specs.Grammar.{language}
use Rattle.hol_notation_grammar.specs.Step.{step_texts}
use Rattle.hol_notation_grammar.specs.Path.{Keeps}
use Rattle.hol_notation_grammar.proofs.machine.omit.Given as goal

abbrev pub invariant-loop-symbol : goal.invariant-loop-symbol
invariant-loop-symbol l = Keeps language l.next (reverse l.initial.todo.items) (step_texts l.initial.steps.items) (reverse l.todo.items) (step_texts l.steps.items)

abbrev pub decreases-loop-symbol : goal.decreases-loop-symbol
decreases-loop-symbol l = length l.todo.items
