use Rattle.std.proofs.Common.{◌∙◌, ◌-◌, sym, ap, List}
use Rattle.hol_notation_grammar.specs.declared.grammar.Production.TheVariants.{OpenGoal}
use Rattle.hol_notation_grammar.specs.declared.grammar.Symbol.{Symbol}
use Rattle.hol_notation_grammar.specs.Grammar.{language, leads, begins}
use Rattle.hol_notation_grammar.proofs.Begins.{begins_found}
use Rattle.hol_notation_grammar.proofs.machine.+begins.Goals as goal

pub begins-returns-then-leads : goal.begins-returns-then-leads
begins-returns-then-leads t c =
    sym (begins_found c.args.depth c.args.rule c.args.sort c.productions-production-items.result.now c.loop-production.production-index OpenGoal c.if-depth-eq0.false
    c.productions-production-items.ensures c.loop-production.invariant c.loop-production-test.true
    (ap (λ (ss : List Symbol). leads (λ m j. begins language (c.args.depth - 1) m j) ss c.args.sort) (sym c.symbols.ensures) ∙ sym c.leads.ensures ∙ c.if-leads.true))
