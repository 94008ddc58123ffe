use Rattle.std.proofs.Common.{◌≡◌, ◌∙◌, ◌∷◌, ◌++◌, ap, sym, reverse, List, arith}
use Rattle.hol_notation_tokens.specs.Lexeme.{seen}
use Rattle.hol_notation_grammar.specs.declared.grammar.Symbol.{Symbol}
use Rattle.hol_notation_grammar.specs.declared.machine.Step.TheVariants.{Choose, Take}
use Rattle.hol_notation_grammar.specs.Table.{symbols}
use Rattle.hol_notation_grammar.specs.Step.{step_texts}
use Rattle.hol_notation_grammar.proofs.Steps.{popped, said_more, ok_each, none_leads, next_leads, takes_token, takes_part, depth_left, part_begun}
use Rattle.hol_notation_grammar.proofs.machine.+descend.Goals as goal

pub descend-requires : goal.descend-requires
descend-requires t c =
    let s : symbols c.in-Some.production ++ reverse c.args.todo.now.items ≡ c.in-Some-pop.first ∷ reverse c.pop.new.self.items =
    sym (ap (λ (l : List Symbol). l ++ reverse c.args.todo.now.items) c.symbols.ensures) ∙ sym c.in_ok-push_all-in-Part.ensures ∙ popped c.push_all.new.todo.items c.pop.new.self.items c.in-Some-pop.first c.in-Some-pop.ensures.items in (
      (let d = depth_left c.args.depth c.in-Part.rule c.args.sort (part_begun c.args.depth c.args.top c.in-Part.rule c.args.sort c.in-Part.is c.requires.1) in omega (arith, d, c.decreases)),
      (
        c.requires.0,
        next_leads c.args.depth c.args.top c.in-Part.rule c.args.sort c.in-Some.production c.productions.result.now c.in-Some-pop.first (reverse c.args.todo.now.items) (reverse c.pop.new.self.items)
            c.in-Part.is c.requires.1 c.productions.ensures c.in-Some.ensures.0 c.in-Some.ensures.1 s,
      ),
    )

pub returns-in_ok-push-in-Token : goal.returns-in_ok-push-in-Token
returns-in_ok-push-in-Token t c =
    takes_token c.args.depth c.args.top c.in-Token.class c.args.sort (seen c.args.word.now) (reverse c.args.todo.now.items) (step_texts c.args.steps.now.items) (step_texts c.push.new.self.items) c.in-Token.is
    c.requires.0 c.requires.1 (said_more c.args.steps.now.items c.push.new.self.items (Take c.in-Token.class c.args.word.now) c.in_ok-push-in-Token.ensures.items)

pub unreachable-requires : goal.unreachable-requires
unreachable-requires t c =
    none_leads c.args.depth c.args.top c.in-Part.rule c.args.sort c.productions.result.now c.in-Part.is c.requires.1 c.productions.ensures c.in_default.ensures

pub returns-in-Some-pop : goal.returns-in-Some-pop
returns-in-Some-pop t c =
    let s : symbols c.in-Some.production ++ reverse c.args.todo.now.items ≡ c.in-Some-pop.first ∷ reverse c.pop.new.self.items =
    sym (ap (λ (l : List Symbol). l ++ reverse c.args.todo.now.items) c.symbols.ensures) ∙ sym c.in_ok-push_all-in-Part.ensures ∙ popped c.push_all.new.todo.items c.pop.new.self.items c.in-Some-pop.first c.in-Some-pop.ensures.items in
    ok_each _ _ c.descend.result
    (λ class h. takes_part c.args.top c.in-Part.rule c.args.sort (seen c.args.word.now) class c.in-Some.production c.productions.result.now c.in-Some-pop.first (reverse c.args.todo.now.items)
    (reverse c.pop.new.self.items) (reverse c.descend.new.todo.items) (step_texts c.args.steps.now.items) (step_texts c.push-in-Part.new.self.items) (step_texts c.descend.new.steps.items) c.in-Part.is c.requires.0
    c.productions.ensures c.in-Some.ensures.0 c.in-Some.ensures.1 (said_more c.args.steps.now.items c.push-in-Part.new.self.items (Choose c.in-Some.production) c.in_ok-push-in-Part.ensures.items) s h)
    c.descend.ensures
