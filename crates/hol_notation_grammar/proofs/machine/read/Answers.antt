use Rattle.std.proofs.Common.{◌∙◌, ◌≤◌, ◌++◌, ◌∷◌, [], List, ap, reverse, map, length}
use Rattle.std.proofs.lemmas.List.{length-map}
use Rattle.hol_notation_tokens.specs.Lexeme.{seen}
use Rattle.hol_notation_grammar.specs.declared.grammar.Symbol.{Symbol}
use Rattle.hol_notation_grammar.specs.declared.grammar.Symbol.TheVariants.{Part}
use Rattle.hol_notation_grammar.specs.Step.{step_texts, name_texts}
use Rattle.hol_notation_grammar.proofs.Words.{read_start, word_refused, word_taken, end_refused}
use Rattle.hol_notation_grammar.proofs.machine.read.Goals as goal

pub loop-word-init : goal.loop-word-init
loop-word-init c =
    read_start c.args.start (reverse c.push.new.self.items) (step_texts c.new-steps.result.items) (name_texts c.new-names.result.items)
    (ap (λ (ss : List Symbol). reverse ss) (c.in_ok-push.ensures.items ∙ ap (λ (ss : List Symbol). ss ++ Part c.args.start ∷ []) c.new-todo.ensures.items)) (ap (λ l. step_texts l) c.new-steps.ensures.items)
    (ap (λ l. name_texts l) c.new-names.ensures.items)

pub returns-then-not-branch : goal.returns-then-not-branch
returns-then-not-branch c =
    word_refused c.args.start c.args.end c.args.words.now c.loop-word.word-index c.in_ok-go_on.field-0 (reverse c.loop-word.todo.items) (reverse c.go_on.new.todo.items) (step_texts c.loop-word.steps.items)
    (step_texts c.go_on.new.steps.items) (name_texts c.loop-word.names.items) (name_texts c.go_on.new.names.items) c.loop-word-test.true c.if-not-branch.true c.loop-word.invariant c.in_ok-go_on.ensures

pub loop-word-preserved : goal.loop-word-preserved
loop-word-preserved c =
    word_taken c.args.start c.args.words.now c.loop-word.word-index c.in_ok-go_on.field-0 (reverse c.loop-word.todo.items) (reverse c.go_on.new.todo.items) (step_texts c.loop-word.steps.items)
    (step_texts c.go_on.new.steps.items) (name_texts c.loop-word.names.items) (name_texts c.go_on.new.names.items) c.loop-word-test.true c.if-not-branch.false c.loop-word.invariant c.in_ok-go_on.ensures

pub returns : goal.returns
returns c =
    let l : length (map seen c.args.words.now) ≤ c.loop-word.word-index = rw (length-map c.args.words.now seen) c.loop-word-test.false in
    end_refused c.args.start c.args.end (map seen c.args.words.now) c.loop-word.word-index c.in_ok-end_here.field-0 (reverse c.loop-word.todo.items) (step_texts c.loop-word.steps.items)
    (step_texts c.end_here.new.steps.items) (name_texts c.loop-word.names.items) l c.if-branch.false c.loop-word.invariant c.in_ok-end_here.ensures
