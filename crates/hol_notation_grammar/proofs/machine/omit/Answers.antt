use Rattle.std.proofs.Common.{◌≡◌, ◌∷◌, [], List, ap, reverse, rules}
use Rattle.std.proofs.lemmas.Grind.{common_steps}
use Rattle.hol_notation_grammar.specs.declared.grammar.Symbol.{Symbol}
use Rattle.hol_notation_grammar.specs.declared.machine.Step.TheVariants.{Choose}
use Rattle.hol_notation_grammar.specs.Step.{step_texts}
use Rattle.hol_notation_grammar.proofs.Steps.{popped, said_more, keeps_omitted, keeps_same, keeps_start}
use Rattle.hol_notation_grammar.proofs.machine.omit.Goals as goal

pub loop-symbol-init : goal.loop-symbol-init
loop-symbol-init c = keeps_start c.args.next (reverse c.args.todo.now.items) (step_texts c.args.steps.now.items)

pub loop-symbol-preserved : goal.loop-symbol-preserved
loop-symbol-preserved c =
    keeps_omitted c.args.next (reverse c.loop-symbol.todo.items) (reverse c.pop.new.self.items) c.in-Some.symbol (reverse c.args.todo.now.items) (step_texts c.args.steps.now.items)
    (step_texts c.loop-symbol.steps.items) (step_texts c.push.new.self.items) c.in-Some-omitted.production (popped c.loop-symbol.todo.items c.pop.new.self.items c.in-Some.symbol c.in-Some.ensures.items)
    c.in-Some-omitted.ensures (said_more c.loop-symbol.steps.items c.push.new.self.items (Choose c.in-Some-omitted.production) c.in_ok-push-in-Some-omitted.ensures.items) c.loop-symbol.invariant

pub returns-in-None : goal.returns-in-None
returns-in-None c = (
  c.in-None.ensures,
  keeps_same c.args.next (reverse c.args.todo.now.items) (reverse c.loop-symbol.todo.items) (c.in-Some.symbol ∷ reverse c.pop.new.self.items) (step_texts c.args.steps.now.items)
      (step_texts c.loop-symbol.steps.items) (popped c.loop-symbol.todo.items c.pop.new.self.items c.in-Some.symbol c.in-Some.ensures.items) c.loop-symbol.invariant,
)

pub returns : goal.returns
returns c =
    let e : c.loop-symbol.todo.items ≡ [] = search (rules, common_steps) in
    keeps_same c.args.next (reverse c.args.todo.now.items) (reverse c.loop-symbol.todo.items) [] (step_texts c.args.steps.now.items) (step_texts c.loop-symbol.steps.items)
    (ap (λ (l : List Symbol). reverse l) e) c.loop-symbol.invariant
