use Rattle.std.proofs.Common.{map, take, reverse}
use Rattle.hol_notation_tokens.specs.Lexeme.{seen}
use Rattle.hol_notation_grammar.specs.Grammar.{language}
use Rattle.hol_notation_grammar.specs.Step.{step_texts, name_texts}
use Rattle.hol_notation_grammar.specs.Path.{IsReadTo}
use Rattle.hol_notation_grammar.proofs.machine.read.Given as goal

abbrev pub invariant-loop-word : goal.invariant-loop-word
invariant-loop-word l = IsReadTo language l.fn.start (take l.word-index (map seen l.words)) (reverse l.todo.items) (step_texts l.steps.items) (name_texts l.names.items)
